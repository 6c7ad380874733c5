pub mod Log
pub mod Convert
pub mod Laws
pub mod ConvertLaws
