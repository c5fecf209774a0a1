-- What the words come to, once they are read.
use Rattle.std.proofs.Common.{◌≡◌, ℕ, List, [], ◌∷◌, sym, ap, ◌∙◌, true, false, length, ◌<◌, get_or, zero, suc, arith, ⊎_elim}
use Rattle.std.specs.declared.option.Option.TheVariants.{Some, None}
use Rattle.std.specs.List.{list_all}
use Rattle.std.specs.Option.{option_map}
use Rattle.std.specs.Str.{IsUtf8, is_utf8}
use Rattle.std.proofs.lemmas.Str.{IsUtf8-from_is_utf8}
use Rattle.std.proofs.lemmas.Bool.{cases_Bool, cond-true, cond-false, and_from, and_left, and_right}
use Rattle.clap.specs.Walk.{Text}
use Rattle.clap.specs.Simple.{matches_of}
use Rattle.command_words.specs.Modes.{mode_of}
use Rattle.command_words.specs.Options.{options_of}
use Rattle.command_words.specs.Readings.{reading, wanted_by}
use Rattle.command_words.specs.Words.{mailx, reads}
use Rattle.command_words.specs.declared.mode.Mode.{Mode}
use Rattle.command_words.specs.declared.options.Options.{Options}
use Rattle.command_words.specs.declared.reading.Wanted.{Wanted}

as-wanted : (words ws : List Text) (o : Options) → ws ≡ words → list_all is_utf8 words ≡ true → reads ws ≡ true → o ≡ options_of (matches_of mailx ws) → reading words ≡ wanted_by o
as-wanted words ws o same utf8 read is =
    cond-true _ _ _ (and_from _ _ utf8 (ap reads (sym same) ∙ read))
    ∙ ap (λ (l : List Text). wanted_by (options_of (matches_of mailx l))) (sym same) ∙ ap wanted_by (sym is)

pub read_wanted : (words ws : List Text) (o : Options) (mode : Mode) → ws ≡ words → list_all is_utf8 words ≡ true → reads ws ≡ true → o ≡ options_of (matches_of mailx ws) → Some mode ≡ mode_of o
    → reading words ≡ Some (record { mode = mode; options = o })
read_wanted words ws o mode same utf8 read is with-mode =
    as-wanted words ws o same utf8 read is ∙ ap (option_map (λ (m : Mode). let w : Wanted = record { mode = m; options = o } in w)) (sym with-mode)

pub read_no_mode : (words ws : List Text) (o : Options) → ws ≡ words → list_all is_utf8 words ≡ true → reads ws ≡ true → o ≡ options_of (matches_of mailx ws) → None ≡ mode_of o → reading words ≡ None
read_no_mode words ws o same utf8 read is none =
    as-wanted words ws o same utf8 read is ∙ ap (option_map (λ (m : Mode). let w : Wanted = record { mode = m; options = o } in w)) (sym none)

pub read_refused : (words ws : List Text) → ws ≡ words → reads ws ≡ false → reading words ≡ None
read_refused words ws same refused = cond-false _ _ _ (and_right (list_all is_utf8 words) _ (ap reads (sym same) ∙ refused))

pub read_no_text : (words : List Text) → list_all is_utf8 words ≡ false → reading words ≡ None
read_no_text words none = cond-false _ _ _ (and_left _ _ none)

-- a word that isn't UTF-8
pub not-all : (words : List Text) (i : ℕ) (d : Text) → i < length words → is_utf8 (get_or words i d) ≡ false → list_all is_utf8 words ≡ false
not-all [] i d h f = absurd (omega arith)
not-all (w ∷ ws) zero d h f = and_left _ _ f
not-all (w ∷ ws) (suc i) d h f = and_right (is_utf8 w) _ (not-all ws i d (omega arith) f)

pub not-utf8 : (bs : List ℕ) → (IsUtf8 bs → ⊥) → is_utf8 bs ≡ false
not-utf8 bs not = ⊎_elim (λ t. absurd (not (IsUtf8-from_is_utf8 bs t))) (λ f. f) (cases_Bool (is_utf8 bs))
