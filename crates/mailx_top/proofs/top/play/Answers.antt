use Rattle.std.proofs.Common.{[], refl, sym, inl}
use Rattle.std.specs.declared.option.Option.TheVariants.{None}
use Rattle.host_port.proofs.RanLemmas.{Ran-map}
use Rattle.session_play.specs.Play.{again}
use Rattle.mailx_top.specs.Meaning.{first_of}
use Rattle.mailx_top.proofs.top.play.Goals as goal

pub returns-in-Some-clause-ran : goal.returns-in-Some-clause-ran
returns-in-Some-clause-ran g c = rw (sym c.in-Some.ensures.wanted) c.start_session.ensures.ran

pub returns-in-None-clause-ran : goal.returns-in-None-clause-ran
returns-in-None-clause-ran g c = rw (sym c.in-None.ensures.wanted)
    (Ran-map (λ es loop. again [] es refl (refl, inl refl) loop) (c.end_with_usage.ensures.ran c.args.env.now (first_of c.args.env.now None)))

pub returns-in-Some-clause-named : goal.returns-in-Some-clause-named
returns-in-Some-clause-named g c = rw (sym c.in-Some.ensures.wanted) (c.start_session.ensures.plain, c.start_session.ensures.bad_name)

pub returns-in-None-clause-named : goal.returns-in-None-clause-named
returns-in-None-clause-named g c = rw (sym c.in-None.ensures.wanted) c.end_with_usage.ensures.named
