mod Parted
mod Pieces
mod Rooms
