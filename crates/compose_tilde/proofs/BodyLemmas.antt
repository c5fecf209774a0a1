-- Lines of the body.
use Rattle.std.proofs.Common.{◌≡◌, ◌==◌, ◌&&◌, ℕ, Bool, List, [], ◌∷◌, length, true, false, refl, ap, ◌∙◌, arith, ⊎_elim, eq-eqb}
use Rattle.std.specs.Prelude.{if◌then◌else◌, Option, codes}
use Rattle.std.specs.List.{flat_map}
use Rattle.std.specs.declared.option.Option.TheVariants.{Some, None}
use Rattle.std.specs.declared.result.Result.TheVariants.{Ok}
use Rattle.std.proofs.lemmas.Bool.{cond-true, cond-false, cases_Bool}
use Rattle.std.proofs.lemmas.List.Elements.{All-head, All-tail}
use Rattle.std.proofs.lemmas.Slice.Eq.{bytes_eq-Decides}
use Rattle.std.specs.Str.{bytes_eq}
use Rattle.mail_text.specs.Lines.{with_feed}
use Rattle.mailx_vars.specs.Settings.{Settings, is_set}
use Rattle.compose_tilde.specs.declared.machine.Machine.{Machine}
use Rattle.compose_tilde.specs.declared.need.Need.TheVariants as need
use Rattle.compose_tilde.specs.Reading.{Written, plain, escape_byte, reading_of, is_end}
use Rattle.compose_tilde.specs.Views.{View}
use Rattle.compose_tilde.specs.Values.{with_subject, with_body}
use Rattle.compose_tilde.specs.Steps.{goes_on}
use Rattle.compose_tilde.specs.Lines.{written_step, draft_line, begun, asked_line, line_step}
use Rattle.compose_tilde.proofs.GrownLemmas.{grown-twice}
use Rattle.compose_tilde.specs.Laws.{begins_with, IsBodyLine, TakesBody, with_bytes, BodyTakesLine, after_step, after_lines, BodyIsLines, TwiceIsOnce}

-- a line that doesn't begin with the escape byte is plain
plain-line : (mark : Option ℕ) (line : List ℕ) → begins_with mark line ≡ false → reading_of mark line ≡ plain line
plain-line None line is = refl
plain-line (Some mark) [] is = refl
plain-line (Some mark) (b ∷ rest) is = cond-false _ _ _ is

-- a line that is read as these bytes is put at the end of the body
put-line : (m : Machine) (line bytes : List ℕ) (view : View) → TakesBody m view → is_end view.vars line ≡ false → reading_of (escape_byte view.vars) line ≡ plain bytes
    → line_step m line view ≡ Ok (with_bytes m (with_feed bytes), need.More)
unfolding line_step
put-line m line bytes view takes no_end is =
    ap (λ p. asked_line p m line view) takes.no_value
    ∙ ap (λ (b : Bool). begun (if b then goes_on m (with_subject m.draft line) else draft_line m line view)) takes.no_subject
    ∙ ap (λ (b : Bool). begun (if b then Ok (m, need.Done) else written_step (reading_of (escape_byte view.vars) line) m view)) no_end
    ∙ ap (λ (w : Written). begun (written_step w m view)) is

pub body-takes-line : BodyTakesLine
body-takes-line m line view takes is = put-line m line line view takes is.goes_on (plain-line (escape_byte view.vars) line is.no_escape)

-- a machine that has taken a line asks for no subject
takes-on : (m : Machine) (bytes : List ℕ) (view : View) → TakesBody m view → TakesBody (with_bytes m bytes) view
takes-on m bytes view takes = record { no_value = takes.no_value; no_subject = refl }

-- lines of the body, one after the other
after-one : (m : Machine) (line : List ℕ) (view : View) → TakesBody m view → IsBodyLine view.vars line → after_step m (line_step m line view) ≡ with_bytes m (with_feed line)
after-one m line view takes is = ap (after_step m) (body-takes-line m line view takes is)

pub body-is-lines : BodyIsLines
body-is-lines m [] view takes all = refl
body-is-lines m (line ∷ lines) view takes all =
    let first = with_feed line in
    ap (λ (n : Machine). (after_lines view n lines).draft) (after-one m line view takes (All-head (IsBodyLine view.vars) line lines all))
    ∙ body-is-lines (with_bytes m first) lines view (takes-on m first view takes) (All-tail (IsBodyLine view.vars) line lines all)
    ∙ ap (with_body m.draft) (grown-twice m.draft.body line (flat_map with_feed lines))

-- a line of two bytes or more doesn't end the draft
no-end : (vars : Settings) (b c : ℕ) (rest : List ℕ) → is_end vars (b ∷ c ∷ rest) ≡ false
no-end vars b c rest =
    ⊎_elim
    (λ t. absurd (let e : length (b ∷ c ∷ rest) ≡ length (codes ".") = ap length ((bytes_eq-Decides (b ∷ c ∷ rest) (codes ".")).0 t) in omega arith))
    (λ f. ap (λ (x : Bool). x && is_set vars (codes "dot")) f)
    (cases_Bool (bytes_eq (b ∷ c ∷ rest) (codes ".")))

-- the escape byte twice is plain
twice-plain : (mark : ℕ) (rest : List ℕ) → reading_of (Some mark) (mark ∷ mark ∷ rest) ≡ plain (mark ∷ rest)
twice-plain mark rest =
    let same : (mark == mark) ≡ true = eq-eqb mark mark refl in
    cond-true _ _ _ same ∙ cond-true _ _ _ same

pub twice-is-once : TwiceIsOnce
twice-is-once m mark rest view takes is =
    put-line m (mark ∷ mark ∷ rest) (mark ∷ rest) view takes (no-end view.vars mark mark rest)
    (ap (λ (e : Option ℕ). reading_of e (mark ∷ mark ∷ rest)) is ∙ twice-plain mark rest)
