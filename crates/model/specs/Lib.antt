pub mod Games
