-- The text form of a machine, line by line.
pub mod Grammar
pub mod Printed
pub mod Words
