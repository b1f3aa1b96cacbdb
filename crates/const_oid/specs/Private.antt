-- What the contracts of private functions cite, and the model of `Arcs`. No clause of a public function cites it.
pub mod Octets
pub mod Encoder
pub mod Groups
pub mod Links
pub mod Nearest
pub mod Parser
pub mod Prefixes
pub mod Text
