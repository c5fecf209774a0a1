use Rattle.std.proofs.Common.{◌<◌, ◌+◌, ◌-◌, false, true, sym, ◌∙◌, arith, drop, get_or, length}
use Rattle.mail_addresses.proofs.Closing.{close-escaped, close-backslash, close-open, close-last, close-inner, close-byte, close-here, close-end, same_state, comment_found, comment_none}
use Rattle.mail_addresses.proofs.scan.comment_end.Goals as goal
use Rattle.mail_addresses.proofs.scan.comment_end.Goals.{then-escaped, else-escaped+then-b-eq92, else-escaped+else-b-eq92+then-b-eq40, else-escaped+else-b-eq92+else-b-eq40+then-b-eq41+else-depth-eq0, else-escaped+else-b-eq92+else-b-eq40+else-b-eq41}

pub returns-then-depth-eq0 : goal.returns-then-depth-eq0
returns-then-depth-eq0 c =
    let xs = c.args.bytes.now in
    let i = c.loop-i.i in
    let d = c.loop-i.depth in
    comment_found xs i (sym c.loop-i.invariant.same ∙ close-here _ false d i xs (omega arith) c.if-escaped.false
    ∙ close-last d i (get_or xs i 0) (drop (i + 1) xs) c.if-b-eq41.true c.if-depth-eq0.true)

pub loop-i-preserved : goal.loop-i-preserved
loop-i-preserved c =
    let xs = c.args.bytes.now in
    let i = c.loop-i.i in
    let d = c.loop-i.depth in
    let b = get_or xs i 0 in
    let rest = drop (i + 1) xs in
    let lt : i < length xs = omega arith in
    let so_far = c.loop-i.invariant.same in
    elim c.if-escaped.branch [
      | then-escaped w ↦ record {
        same = same_state _ false _ d (i + 1) rest w.escaped-is w.depth-is ∙ sym (close-here _ true d i xs lt w.if-escaped.true ∙ close-escaped d i b rest) ∙ so_far;
        shallow = omega arith;
      }
      | else-escaped+then-b-eq92 w ↦ record {
        same = same_state _ true _ d (i + 1) rest w.escaped-is w.depth-is ∙ sym (close-here _ false d i xs lt w.if-escaped.false ∙ close-backslash d i b rest w.if-b-eq92.true) ∙ so_far;
        shallow = omega arith;
      }
      | else-escaped+else-b-eq92+then-b-eq40 w ↦ record {
        same = same_state _ false _ (d + 1) (i + 1) rest (w.escaped-is ∙ w.if-escaped.false) w.depth-is
            ∙ sym (close-here _ false d i xs lt w.if-escaped.false ∙ close-open d i b rest w.if-b-eq40.true) ∙ so_far;
        shallow = omega arith;
      }
      | else-escaped+else-b-eq92+else-b-eq40+then-b-eq41+else-depth-eq0 w ↦ record {
        same = same_state _ false _ (d - 1) (i + 1) rest (w.escaped-is ∙ w.if-escaped.false) w.depth-is
            ∙ sym (close-here _ false d i xs lt w.if-escaped.false ∙ close-inner d i b rest w.if-b-eq41.true w.if-depth-eq0.false) ∙ so_far;
        shallow = omega arith;
      }
      | else-escaped+else-b-eq92+else-b-eq40+else-b-eq41 w ↦ record {
        same = same_state _ false _ d (i + 1) rest (w.escaped-is ∙ w.if-escaped.false) w.depth-is
            ∙ sym (close-here _ false d i xs lt w.if-escaped.false ∙ close-byte d i b rest w.if-b-eq92.false w.if-b-eq40.false w.if-b-eq41.false) ∙ so_far;
        shallow = omega arith;
      }
    ]

pub returns : goal.returns
returns c = comment_none c.args.bytes.now (sym c.loop-i.invariant.same ∙ close-end c.loop-i.escaped c.loop-i.depth c.loop-i.i c.args.bytes.now (omega arith))
