mod Items
mod Joined
