mod ReadingLemmas
mod ReplayLemmas
mod ValueLemmas
