mod Asked
mod Digits
mod Lists
mod Newest
mod Roots
mod Words
