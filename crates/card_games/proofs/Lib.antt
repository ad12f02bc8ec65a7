mod OfferLemmas
mod PackLemmas
mod ReadLemmas
