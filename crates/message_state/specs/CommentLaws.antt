-- Comments in dates are those of addresses (RFC 5322, section 3.2.2).
use Rattle.std.specs.Prelude.{◌≡◌, ℕ, List, [], ◌∷◌, ◌++◌}
use Rattle.mail_addresses.specs.Lexical.{IsCommentContent, NeverEnds}
use Rattle.mail_dates.specs.Parts.{Outside, without_comments}

-- what is a comment in an address is a space in a date
abbrev pub CommentIsSpace : Type 0
CommentIsSpace = (inside after : List ℕ) → IsCommentContent inside → without_comments Outside (40 ∷ (inside ++ 41 ∷ after)) ≡ 32 ∷ without_comments Outside after

-- a parenthesis that nothing closes in an address isn't closed in a date: it stays, and nothing after it does
abbrev pub OpenStays : Type 0
OpenStays = (bs : List ℕ) → NeverEnds IsCommentContent 41 bs → without_comments Outside (40 ∷ bs) ≡ 32 ∷ 40 ∷ []
