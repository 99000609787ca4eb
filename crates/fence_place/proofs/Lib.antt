mod Searched
mod Placed
mod Well
mod Selectable
mod Few
