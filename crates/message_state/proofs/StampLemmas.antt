-- Texts by their From line, the lines of a header and a body.
use Rattle.std.proofs.Common.{◌≡◌, ℕ, Bool, true, false, List, [], ◌∷◌, ◌++◌, map, Option, Some, None, not, refl, sym, ap, ◌∙◌, append_assoc, append-nil}
use Rattle.std.specs.Bool.{if◌then◌else◌}
use Rattle.std.specs.List.{flat_map, join_with_byte}
use Rattle.mail_headers.specs.Header.{Entry, entry_bytes, from_line, entries_of, body_of, text_of}
use Rattle.mail_headers.proofs.FieldLemmas.{join-lines}
use Rattle.message_state.specs.Stamp.{is_named, without, field_lines, with_value, body_part}

-- lines, each after a line feed
abbrev pub after_feeds : List (List ℕ) → List ℕ
after_feeds ls = flat_map (λ l. 10 ∷ l) ls

-- the entries that stay, each after a line feed
abbrev pub kept_part : List ℕ → List Entry → List ℕ
kept_part name es = after_feeds (map entry_bytes (without name es))

pub kept_part-named : (name : List ℕ) (e : Entry) (es : List Entry) → is_named name e ≡ true → kept_part name (e ∷ es) ≡ kept_part name es
kept_part-named name e es is = ap (λ (b : Bool). after_feeds (map entry_bytes (if not b then e ∷ without name es else without name es))) is

pub kept_part-other : (name : List ℕ) (e : Entry) (es : List Entry) → is_named name e ≡ false → kept_part name (e ∷ es) ≡ 10 ∷ entry_bytes e ++ kept_part name es
kept_part-other name e es is = ap (λ (b : Bool). after_feeds (map entry_bytes (if not b then e ∷ without name es else without name es))) is

pub after_feeds-append : (ls ms : List (List ℕ)) → after_feeds (ls ++ ms) ≡ after_feeds ls ++ after_feeds ms
after_feeds-append [] ms = refl
after_feeds-append (l ∷ ls) ms = ap (λ (x : List ℕ). 10 ∷ l ++ x) (after_feeds-append ls ms) ∙ sym (append_assoc (10 ∷ l) (after_feeds ls) (after_feeds ms))

pub text_of-is : (from : List ℕ) (lines : List (List ℕ)) (body : Option (List ℕ)) → text_of from lines body ≡ join_with_byte 10 (from ∷ lines) ++ body_part body
text_of-is from lines None = sym (append-nil (join_with_byte 10 (from ∷ lines)))
text_of-is from lines (Some body) = refl

-- the text as it is written, part by part
pub with_value-parts : (name value t : List ℕ) → with_value name value t ≡ ((from_line t ++ kept_part name (entries_of t)) ++ after_feeds (field_lines name value)) ++ body_part (body_of t)
with_value-parts name value t =
    text_of-is (from_line t) (map entry_bytes (without name (entries_of t)) ++ field_lines name value) (body_of t)
    ∙ ap (λ (x : List ℕ). x ++ body_part (body_of t))
    (join-lines (from_line t) (map entry_bytes (without name (entries_of t)) ++ field_lines name value)
    ∙ ap (λ (x : List ℕ). from_line t ++ x) (after_feeds-append (map entry_bytes (without name (entries_of t))) (field_lines name value))
    ∙ sym (append_assoc (from_line t) (kept_part name (entries_of t)) (after_feeds (field_lines name value))))
