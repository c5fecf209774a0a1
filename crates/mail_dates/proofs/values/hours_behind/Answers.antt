use Rattle.std.proofs.Common.{◌≡◌, ℕ, ◌+◌, ◌<◌, List, [], false, length, get_or, drop, drop-cons, add-one, ap, sym, ◌∙◌}
use Rattle.std.specs.Str.{bytes_eq}
use Rattle.mail_dates.specs.Values.{hours_behind, zone_words}
use Rattle.mail_dates.proofs.values.hours_behind.Goals as goal

-- a zone of another word changes nothing
hours_behind-drop : (zones : List (List ℕ × ℕ)) (n : ℕ) (word : List ℕ) → n < length zones → bytes_eq (get_or zones n ([], 0)).0 word ≡ false
    → hours_behind (drop n zones) word ≡ hours_behind (drop (n + 1) zones) word
hours_behind-drop zones n word h e = rw (add-one, drop-cons zones n ([], 0), e)

pub loop-name-preserved : goal.loop-name-preserved
loop-name-preserved c =
    let other : bytes_eq (get_or zone_words c.loop-name.name-index ([], 0)).0 c.args.word.now ≡ false =
    ap (λ name. bytes_eq name c.args.word.now) (sym c.as_slice.ensures) ∙ sym c.eq.ensures ∙ c.if-eq.false in
    sym (hours_behind-drop zone_words c.loop-name.name-index c.args.word.now c.loop-name-test.true other) ∙ c.loop-name.invariant
