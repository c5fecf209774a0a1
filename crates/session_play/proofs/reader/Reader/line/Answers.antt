use Rattle.std.proofs.Common.{ap, ◌∙◌}
use Rattle.std.proofs.lemmas.Result.{err_from_is_err_and}
use Rattle.host_port.proofs.RanLemmas.{Ran-then, Ran-map}
use Rattle.session_play.specs.Input.{left}
use Rattle.session_play.proofs.InputLemmas.{reads-on, line-taken, line-cut-on}
use Rattle.std.specs.Prelude.{OnSome, ℕ, ◌<◌}
use Rattle.std.proofs.Common.{subst}
use Rattle.session_play.proofs.LineLemmas.{line-less}
use Rattle.session_play.proofs.reader.Reader.line.Goals as goal

pub returns-in-Some-clause-ran : goal.returns-in-Some-clause-ran
returns-in-Some-clause-ran g c = Ran-map (λ es reads. line-taken _ _ _ _ es (rw c.in-Some.is at c.in_ok-line.ensures.ok) reads) c.lines.invariant.ran

pub lines-preserved : goal.lines-preserved
lines-preserved g c = let h = rw c.in-None.is at c.in_ok-line.ensures.ok in
    record {
      ran = Ran-then (reads-on _ _ _ _ (c.drop_used.ensures ∙ h.1)) c.lines.invariant.ran c.in_ok-fill-in-None.ensures.ran;
      kept =
          c.in_ok-fill-in-None.ensures.kept ∙ ap left (c.drop_used.ensures ∙ h.1) ∙ c.lines.invariant.kept;
    }

pub returns-in_err-fill-in-None-clause-ran : goal.returns-in_err-fill-in-None-clause-ran
returns-in_err-fill-in-None-clause-ran g c =
    let p = err_from_is_err_and c.from_residual-in_err-fill-in-None.result c.from_residual-in_err-fill-in-None.ensures.1 in
    let h = rw c.in-None.is at c.in_ok-line.ensures.ok in
    rw (p.1, p.2) (Ran-then (line-cut-on _ _ _ c.args.self.now _ (c.drop_used.ensures ∙ h.1)) c.lines.invariant.ran c.in_err-fill-in-None.ensures.ran)

pub returns-in-Some-clause-progress : goal.returns-in-Some-clause-progress
returns-in-Some-clause-progress g c = let L : ℕ → Type 0 = λ n. OnSome c.in-Some.line (left c.take_line.new.self < n) in
    subst L c.lines.invariant.kept (line-less _ _ _ (rw c.in-Some.is at c.in_ok-line.ensures.ok))
