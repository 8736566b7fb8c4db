mod TypeNames
mod TypeLaws
