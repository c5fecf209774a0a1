use Rattle.std.proofs.Common.{◌<◌, ◌+◌, Bool, false, true, sym, ap, ◌∙◌, arith, drop, get_or, length}
use Rattle.mail_addresses.specs.Tokens.{unquote}
use Rattle.mail_addresses.proofs.Quoting.{unquote-escaped, unquote-backslash, unquote-last, unquote-byte, unquote-here, unquote-end, quoted_found, quoted_none}
use Rattle.mail_addresses.proofs.scan.quote_end.Goals as goal
use Rattle.mail_addresses.proofs.scan.quote_end.Goals.{then-escaped, else-escaped+then-b-eq92, else-escaped+else-b-eq92+else-b-eq34}

pub returns-then-b-eq34-clause-place : goal.returns-then-b-eq34-clause-place
returns-then-b-eq34-clause-place c =
    let xs = c.args.bytes.now in
    let i = c.loop-i.i in
    sym (sym c.loop-i.invariant ∙ unquote-here _ false i xs (omega arith) c.if-escaped.false ∙ unquote-last i (get_or xs i 0) (drop (i + 1) xs) c.if-b-eq34.true)

pub returns-then-b-eq34-clause-end : goal.returns-then-b-eq34-clause-end
returns-then-b-eq34-clause-end c =
    let xs = c.args.bytes.now in
    let i = c.loop-i.i in
    quoted_found xs i (sym c.loop-i.invariant ∙ unquote-here _ false i xs (omega arith) c.if-escaped.false ∙ unquote-last i (get_or xs i 0) (drop (i + 1) xs) c.if-b-eq34.true)

pub loop-i-preserved : goal.loop-i-preserved
loop-i-preserved c =
    let xs = c.args.bytes.now in
    let i = c.loop-i.i in
    let b = get_or xs i 0 in
    let rest = drop (i + 1) xs in
    let lt : i < length xs = omega arith in
    let state = λ (e : Bool). unquote e (i + 1) rest in
    elim c.if-escaped.branch [
      | then-escaped w ↦ ap state w.escaped-is ∙ sym (unquote-here _ true i xs lt w.if-escaped.true ∙ unquote-escaped i b rest) ∙ c.loop-i.invariant
      | else-escaped+then-b-eq92 w ↦ ap state w.escaped-is ∙ sym (unquote-here _ false i xs lt w.if-escaped.false ∙ unquote-backslash i b rest w.if-b-eq92.true) ∙ c.loop-i.invariant
      | else-escaped+else-b-eq92+else-b-eq34 w ↦ ap state (w.escaped-is ∙ w.if-escaped.false)
          ∙ sym (unquote-here _ false i xs lt w.if-escaped.false ∙ unquote-byte i b rest w.if-b-eq92.false w.if-b-eq34.false) ∙ c.loop-i.invariant
    ]

pub returns-clause-place : goal.returns-clause-place
returns-clause-place c = sym (sym c.loop-i.invariant ∙ unquote-end c.loop-i.escaped c.loop-i.i c.args.bytes.now (omega arith))

pub returns-clause-end : goal.returns-clause-end
returns-clause-end c = quoted_none c.args.bytes.now (sym c.loop-i.invariant ∙ unquote-end c.loop-i.escaped c.loop-i.i c.args.bytes.now (omega arith))
