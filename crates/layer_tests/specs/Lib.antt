pub use Rattle.data_pool.specs.Pools
pub use Rattle.port_log.specs.Logs
pub use Rattle.file_shelf.specs.Shelves
