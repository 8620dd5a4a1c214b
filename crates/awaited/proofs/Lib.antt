mod BehindLemmas
mod BesideLemmas
mod NameLemmas
mod RuleLemmas
mod StepLemmas
mod WindowLemmas
