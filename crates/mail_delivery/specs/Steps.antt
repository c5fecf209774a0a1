-- What the parts of a delivery do, by their own events.
use Rattle.std.specs.Prelude.{◌≡◌, ℕ, Bool, true, false, List, ◌∷◌, [], ◌++◌}
use Rattle.std.specs.declared.result.Result.{Result}
use Rattle.std.specs.declared.result.Result.TheVariants.{Ok, Err}
use Rattle.host_port.specs.declared.event.Event.{Event}
use Rattle.mail_text.specs.Lines.{with_feed}
use Rattle.draft_text.specs.Texts.{quoted_line}
use Rattle.session_play.specs.declared.stop.Stop.{Stop}
use Rattle.session_play.specs.declared.stop.Stop.TheVariants as stop
use Rattle.session_play.specs.Input.{Input}
use Rattle.session_play.specs.Play.{Play, Next, Go, Last, Goes, Loop}
use Rattle.mail_delivery.specs.declared.environment.Environment.{Environment}
use Rattle.mail_delivery.specs.declared.words.Request.{Request}
use Rattle.mail_delivery.specs.declared.status.DeliverStatus.{DeliverStatus}
use Rattle.mail_delivery.specs.Delivered.{quoted_lines}
use Rattle.mail_delivery.specs.Meaning.{Taken, taken, nothing_taken, delivering, round}

-- the delivery ends, or is cut off
abbrev pub ended : Result DeliverStatus Stop → Result (Next Taken DeliverStatus) Stop
ended (Ok s) = Ok (Last s)
ended (Err cause) = Err cause

-- a line was put behind a body as a mailbox has it, and there may be another; or memory ran out
abbrev pub Put : Result Bool Stop → List ℕ → List ℕ → List ℕ → Type 0
Put (Ok true) body line new = new ≡ body ++ with_feed (quoted_line line)
Put (Ok false) body line new = ⊥
Put (Err stop.Memory) body line new = Unit {0}
Put (Err cause) body line new = ⊥

-- a line was taken and put behind the body of these lines; or the input was over, so that the delivery goes on from there; or it was cut off
abbrev pub TookLine : Request → Environment → List (List ℕ) → Input → Input → Result Bool Stop → List ℕ → List Event → Type 0
TookLine request env lines i j (Ok true) body es =
    (line : List ℕ) × (body ≡ quoted_lines (lines ++ line ∷ [])) × Goes (round request env (taken i lines)) es (Ok (Go (taken j (lines ++ line ∷ []))))
TookLine request env lines i j (Ok false) body es =
    (body ≡ quoted_lines lines) × ((rest : List Event) (out : Result DeliverStatus Stop)
    → Goes (delivering request env lines) rest (ended out) → Goes (round request env (taken i lines)) (es ++ rest) (ended out))
TookLine request env lines i j (Err cause) body es = Goes (round request env (taken i lines)) es (Err cause)

-- all lines were taken, so that the delivery goes on from there; or it was cut off
abbrev pub TookBody : Request → Environment → Result (List ℕ) Stop → List Event → Type 0
TookBody request env (Ok body) es =
    (lines : List (List ℕ)) × (body ≡ quoted_lines lines) × ((rest : List Event) (out : Result DeliverStatus Stop)
    → Goes (delivering request env lines) rest (ended out) → Loop (round request env) nothing_taken (es ++ rest) out)
TookBody request env (Err cause) es = Loop (round request env) nothing_taken es (Err cause)

-- whatever lines the body has, the rest of their delivery was carried out
abbrev pub OfLines : List ℕ → (List (List ℕ) → Play (Next Taken DeliverStatus)) → Result DeliverStatus Stop → List Event → Type 0
OfLines body rest_of out es = (lines : List (List ℕ)) → body ≡ quoted_lines lines → Goes (rest_of lines) es (ended out)
