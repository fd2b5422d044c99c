mod RangeLaws
mod RangeLemmas
