mod NodeLemmas
mod ListLemmas
mod QueryLemmas
