mod Covering
mod TableOf
mod Refills
mod Refilling
mod Removals
mod EdgeWalk
mod HorizonIdle
mod RefillWhole
