-- What the types of this crate stand for. What legs leave stands in `leg_model`.
pub mod Views
pub mod Plans
