-- What a change makes of a file. A file is its bytes, None if it is absent.
use Rattle.std.specs.Prelude.{◌≡◌, false, ℕ, ◌+◌, Bool, ◌&&◌, ◌||◌, ◌==◌, nat_eq, not, List, [], ◌∷◌, ◌++◌, Option, Some, None, Result, Ok, Err, IsOk, length, drop, if◌then◌else◌}
use Rattle.std.specs.List.{starts_with, ends_with, common_prefix_len}
use Rattle.std.specs.Str.{bytes_eq}
use Rattle.mbox_scan.specs.Mailbox.{two_feeds, list_of, texts_of, join}
use Rattle.folder_change.specs.declared.change.Change.{Change}
use Rattle.folder_change.specs.declared.change.Change.TheVariants.{Rewrite, Add, Front, AddRaw}
use Rattle.folder_change.specs.declared.error.ChangeError.{ChangeError}
use Rattle.folder_change.specs.declared.error.ChangeError.TheVariants.{Changed, Memory}

-- the bytes of a file; an absent one has none
abbrev pub bytes_of : Option (List ℕ) → List ℕ
bytes_of None = []
bytes_of (Some b) = b

-- the texts of the folder that a change is made for; if there is none, no texts
abbrev pub base_list : Option (List ℕ) → List (List ℕ)
base_list None = []
base_list (Some b) = texts_of b

-- the line feeds that the bytes lack to be empty or end in two
unfoldable pub missing_feeds : List ℕ → List ℕ
missing_feeds b =
    if length b == 0 || ends_with nat_eq b two_feeds then []
    else if ends_with nat_eq b (10 ∷ []) then 10 ∷ [] else two_feeds

-- a file with these bytes; if there are none, it stands only if it is kept
abbrev pub file_of : List ℕ → Bool → Option (List ℕ)
file_of b keep = if length b == 0 && not keep then None else Some b

-- the texts `now` have as many of those of the base at their front, and not one more
pub record DiffersAt (base now : List (List ℕ)) (k : ℕ) : Type 0 where
  pub other : starts_with bytes_eq now base ≡ false
  pub same : common_prefix_len bytes_eq base now ≡ k

-- the texts `list` in place of the base at the front of the current ones. If these don't begin
-- with the base, the number, from 1, of the first text of the base that they lack or have otherwise
unfoldable pub rewritten : List (List ℕ) → List (List ℕ) → Bool → List (List ℕ) → Result (Option (List ℕ)) ℕ
rewritten now list keep base =
    if starts_with bytes_eq now base then Ok (file_of (join list ++ join (drop (length base) now)) keep)
    else Err (common_prefix_len bytes_eq base now + 1)

-- the texts `list` in place of the base, if the current bytes may have no list: they differ from the first message on
unfoldable pub rewrite_of : Option (List (List ℕ)) → List (List ℕ) → Bool → List (List ℕ) → Result (Option (List ℕ)) ℕ
rewrite_of None list keep base = Err 1
rewrite_of (Some now) list keep base = rewritten now list keep base

-- why there is no file: it has changed, at this number; or memory ran out, which hides no change
abbrev pub Explains : ChangeError → Result (Option (List ℕ)) ℕ → Type 0
Explains (Changed at) outcome = outcome ≡ Err at
Explains Memory outcome = IsOk outcome

-- the file after a change, or the number of the message at which it has changed
unfoldable pub outcome_of : Option (List ℕ) → Change → List (List ℕ) → Result (Option (List ℕ)) ℕ
outcome_of current (Rewrite name list keep) base = rewrite_of (list_of (bytes_of current)) list keep base
outcome_of current (Add name texts) base = Ok (Some (bytes_of current ++ missing_feeds (bytes_of current) ++ join texts))
outcome_of current (Front name texts) base = Ok (Some (join texts ++ bytes_of current))
outcome_of current (AddRaw name bytes) base = Ok (Some (bytes_of current ++ bytes))
