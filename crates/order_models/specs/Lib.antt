pub mod Orders
pub mod Consistent
pub mod Local
pub mod OwnKinds
pub mod Doors
pub mod OwnDoors
