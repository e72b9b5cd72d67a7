pub mod Brief
