use Rattle.std.proofs.Common.{◌≡◌, ◌+◌, ◌<◌, ◌++◌, [], ◌∷◌, ℕ, Bool, List, length, get_or, sym, ap, ◌∙◌, arith}
use Rattle.mail_search.specs.Tokens.{outside, quoted, tokens_from}
use Rattle.mail_search.proofs.TokenLemmas.{strung_at, turn_backslash, turn_escaped, turn_plain, turn_last, turns_over}
use Rattle.mail_search.proofs.token.unquoted.Goals as goal
use Rattle.mail_search.proofs.token.unquoted.Goals.{then-escaped+in_ok-push, else-escaped+then-byte-eq92, else-escaped+else-byte-eq92+else-byte-eq34+in_ok-push-2}

pub returns-then-byte-eq34-clause-tokens : goal.returns-then-byte-eq34-clause-tokens
returns-then-byte-eq34-clause-tokens c =
    sym c.loop-i.invariant ∙ turn_last c.loop-i.string c.loop-i.escaped c.loop-i.i c.args.bytes.now (omega arith) c.if-escaped.false c.if-byte-eq92.false c.if-byte-eq34.true
    ∙ ap (λ (l : List ℕ). quoted c.loop-i.string ∷ tokens_from outside l) (sym c.split_at.ensures.back)

pub loop-i-preserved : goal.loop-i-preserved
loop-i-preserved c =
    let xs = c.args.bytes.now in
    let i = c.loop-i.i in
    let b = get_or xs i 0 in
    let out = c.loop-i.string in
    let lt : i < length xs = omega arith in
    let next = λ (s : List ℕ) (e : Bool). strung_at s e (i + 1) xs in
    elim c.if-escaped.branch [
      | then-escaped+in_ok-push w ↦
          let more : c.if-escaped.string ≡ out ++ b ∷ [] = cc (w.string-is, w.in_ok-push.ensures.ok) in
          ap (λ (s : List ℕ). next s c.if-escaped.escaped) more ∙ ap (next (out ++ b ∷ [])) w.escaped-is ∙ turn_escaped out c.loop-i.escaped i xs lt w.if-escaped.true ∙ c.loop-i.invariant
      | else-escaped+then-byte-eq92 w ↦
          ap (λ (s : List ℕ). next s c.if-escaped.escaped) w.string-is ∙ ap (next out) w.escaped-is
          ∙ turn_backslash out c.loop-i.escaped i xs lt w.if-escaped.false w.if-byte-eq92.true ∙ c.loop-i.invariant
      | else-escaped+else-byte-eq92+else-byte-eq34+in_ok-push-2 w ↦
          let more : c.if-escaped.string ≡ out ++ b ∷ [] = cc (w.string-is, w.in_ok-push-2.ensures.ok) in
          ap (λ (s : List ℕ). next s c.if-escaped.escaped) more ∙ ap (next (out ++ b ∷ [])) (w.escaped-is ∙ w.if-escaped.false)
          ∙ turn_plain out c.loop-i.escaped i xs lt w.if-escaped.false w.if-byte-eq92.false w.if-byte-eq34.false ∙ c.loop-i.invariant
    ]

pub returns-clause-tokens : goal.returns-clause-tokens
returns-clause-tokens c = sym c.loop-i.invariant ∙ turns_over c.loop-i.string c.loop-i.escaped c.loop-i.i c.args.bytes.now (omega arith)
