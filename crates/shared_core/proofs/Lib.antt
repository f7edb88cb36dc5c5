mod Whole
mod Rests
mod Told
