pub mod BlockFaults
