pub mod FirstLaws
pub mod GroupLaws
pub mod IdLaws
pub mod NotingLaws
pub mod PlaceLaws
pub mod TypeLaws
pub mod WholeLaws
