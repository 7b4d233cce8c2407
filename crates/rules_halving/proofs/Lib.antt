mod Loops
mod Pairs
mod ThreeHalves
mod Lending
