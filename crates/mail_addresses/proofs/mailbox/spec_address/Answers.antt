use Rattle.std.proofs.Common.{sym, ◌∙◌, refl}
use Rattle.std.proofs.lemmas.Bool.{both_ways}
use Rattle.mail_addresses.specs.Tokens.{tokens_in}
use Rattle.mail_addresses.proofs.FormLemmas.{spec_is_run, run_is_spec, is_cut}
use Rattle.mail_addresses.proofs.Walks.{texts_in}
use Rattle.mail_addresses.proofs.mailbox.spec_address.Goals as goal

pub returns-then-not-are_gaps : goal.returns-then-not-are_gaps
returns-then-not-are_gaps c = λ a gives.
    let cut = is_cut (tokens_in c.args.bytes.now) _ _ (tokens_in c.split_at_gap.result.0.now)
    (tokens_in c.split_at_gap.result.1.now) c.split_after_gaps.ensures.cut c.split_at_gap.ensures.cut c.split_after_gaps.ensures.gaps
    c.split_after_gaps.ensures.ends c.split_at_gap.ensures.solid c.split_at_gap.ensures.ends in
    both_ways _ c.if-not-are_gaps.true (c.are_gaps.ensures ∙ (spec_is_run _ _ _ _ a cut gives).gaps_after)

pub returns-in-None : goal.returns-in-None
returns-in-None c = λ a gives.
    let cut = is_cut (tokens_in c.args.bytes.now) _ _ (tokens_in c.split_at_gap.result.0.now)
    (tokens_in c.split_at_gap.result.1.now) c.split_after_gaps.ensures.cut c.split_at_gap.ensures.cut c.split_after_gaps.ensures.gaps
    c.split_after_gaps.ensures.ends c.split_at_gap.ensures.solid c.split_at_gap.ensures.ends in
    c.in-None.ensures a.local (spec_is_run _ _ _ _ a cut gives).is_spec

pub returns-in_ok-spec-in-Some : goal.returns-in_ok-spec-in-Some
returns-in_ok-spec-in-Some c =
    let cut = is_cut (tokens_in c.args.bytes.now) _ _ (tokens_in c.split_at_gap.result.0.now)
    (tokens_in c.split_at_gap.result.1.now) c.split_after_gaps.ensures.cut c.split_at_gap.ensures.cut c.split_after_gaps.ensures.gaps
    c.split_after_gaps.ensures.ends c.split_at_gap.ensures.solid c.split_at_gap.ensures.ends in
    let run = c.split_at_gap.result.0.now in (
      run_is_spec (tokens_in c.args.bytes.now) _ (tokens_in run) (tokens_in c.split_at_gap.result.1.now) _ cut record {
        gaps_after = sym c.are_gaps.ensures ∙ c.if-not-are_gaps.false;
        is_spec = c.in-Some.ensures;
        text = c.in_ok-spec-in-Some.ensures ∙ sym (texts_in run);
      },
      refl,
    )
