-- The set for a need that a definition by tests asks: each test's value from the fact that its branch gives.
-- Assumes nothing.
use borrow.Author.Tests.{lt-ltb, le-ltb, le-leb, lt-leb, eq-eqb, ne_eqb}

pub ruleset branches = (lt-ltb, le-ltb, le-leb, lt-leb, eq-eqb, ne_eqb)
