mod Arrays
mod Ranges
mod Values
