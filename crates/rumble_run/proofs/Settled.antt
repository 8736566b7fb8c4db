-- An ending whose output is handed out, or a stop in its place.
use Rattle.std.proofs.Common.{◌≡◌, ◌≢◌, inl, inr, ℕ, List, Option, Result, Ok, Err, refl, sym, subst, arith}
use Rattle.std.specs.Prelude.{IfOk, IfErr}
use Rattle.rumble_run.specs.Answer.{Answer}
use Rattle.rumble_run.specs.Ends.{StatusBy, OutBy, Calm, Completes, HasText, err_by}
use Rattle.rumble_run.specs.Prepared.{status_of}
use Rattle.rumble_run.specs.inside.Decided.{IsStop, StopsBy}
use Rattle.rumble_run.specs.inside.Seen.{IsSilent}
use Rattle.rumble_run.specs.declared.command.Command.{Command}
use Rattle.rumble_run.specs.declared.status.Status.{Status}
use Rattle.rumble_run.specs.declared.status.Status.TheVariants.{Done, Raised, Refused, Usage, ReadFault, WriteFault, NoMemory, NoQuery}

status_told : (a : Answer) (s : Status) → IsSilent a.out a.status → s ≡ a.status → StatusBy a s
status_told a WriteFault silent e = absurd (subst (IsSilent a.out) (sym e) silent)
status_told a ReadFault silent e = tt
status_told a NoMemory silent e = tt
status_told a Done silent e = sym e
status_told a Raised silent e = sym e
status_told a Refused silent e = sym e
status_told a Usage silent e = sym e
status_told a NoQuery silent e = sym e

-- the status that is handed out is the ending's
pub settled_same : {T : Type 0} (Holds : T → Type 0) (s : Status) (r : Result T Status)
    → IfOk r (λ out. (s ≡ Done) × Holds out) → IfErr r (λ t. (t ≡ s) × (t ≢ Done)) → status_of r ≡ s
settled_same Holds s (Ok out) done other = sym done.0
settled_same Holds s (Err t) done other = other.0

pub settled_status : {T : Type 0} (Holds : T → Type 0) (a : Answer) (r : Result T Status) → IsSilent a.out a.status
    → IfOk r (λ out. (a.status ≡ Done) × Holds out) → IfErr r (λ s. (s ≡ a.status) × (s ≢ Done))
    → StatusBy a (status_of r)
settled_status Holds a (Ok out) silent done other = done.0
settled_status Holds a (Err s) silent done other = status_told a s silent other.0

pub settled_complete : {T : Type 0} (Holds : T → Type 0) (a : Answer) (r : Result T Status)
    → IfOk r (λ out. (a.status ≡ Done) × Holds out) → IfErr r (λ s. (s ≡ a.status) × (s ≢ Done))
    → Completes a (status_of r)
settled_complete Holds a r done other = inr (settled_same Holds a.status r done other)

-- what holds of the ending's status holds of the one that is handed out
pub settled_by : {T : Type 0} (Of : Status → Type 0) (Holds : T → Type 0) (s : Status) (r : Result T Status)
    → IfOk r (λ out. (s ≡ Done) × Holds out) → IfErr r (λ t. (t ≡ s) × (t ≢ Done)) → Of s → Of (status_of r)
settled_by Of Holds s r done other h = subst Of (sym (settled_same Holds s r done other)) h

pub settled_output : {T : Type 0} (Holds : T → Type 0) (a : Answer) (r : Result T Status)
    → IfOk r (λ out. (a.status ≡ Done) × Holds out) → IfOk r Holds
settled_output Holds a (Ok out) done = done.1
settled_output Holds a (Err s) done = tt

text_told : (a : Answer) (s : Status) (Told : List ℕ → Type 0) → IsSilent a.out a.status → s ≡ a.status
    → Told a.err → Told (err_by a.err s)
text_told a WriteFault Told silent e t = absurd (subst (IsSilent a.out) (sym e) silent)
text_told a ReadFault Told silent e t = absurd (subst (IsSilent a.out) (sym e) silent)
text_told a NoMemory Told silent e t = absurd (subst (IsSilent a.out) (sym e) silent)
text_told a Done Told silent e t = t
text_told a Raised Told silent e t = t
text_told a Refused Told silent e t = t
text_told a Usage Told silent e t = t
text_told a NoQuery Told silent e t = t

pub settled_text : {T : Type 0} (Told : List ℕ → Type 0) (a : Answer) (r : Result T Status)
    → IsSilent a.out a.status → IfErr r (λ s. (s ≡ a.status) × (s ≢ Done))
    → IfErr r (λ s. Told a.err) → IfErr r (λ s. Told (err_by a.err s))
settled_text Told a (Ok out) silent other t = tt
settled_text Told a (Err s) silent other t = text_told a s Told silent other.0 t

-- ---- a stop

pub stop_status : (a : Answer) (s : Status) → IsStop s → StatusBy a s
stop_status a ReadFault is = tt
stop_status a NoMemory is = tt
stop_status a Done is = absurd is
stop_status a Raised is = absurd is
stop_status a Refused is = absurd is
stop_status a Usage is = absurd is
stop_status a WriteFault is = absurd is
stop_status a NoQuery is = absurd is

-- with no fault it is for want of memory
pub stop_complete : (a : Answer) (s : Status) (before after : ℕ) → IsStop s → StopsBy s before after → Calm before after → Completes a s
stop_complete a ReadFault before after is rose calm = absurd (omega (arith, rose, calm.0, calm.1))
stop_complete a NoMemory before after is rose calm = inl refl
stop_complete a Done before after is rose calm = absurd is
stop_complete a Raised before after is rose calm = absurd is
stop_complete a Refused before after is rose calm = absurd is
stop_complete a Usage before after is rose calm = absurd is
stop_complete a WriteFault before after is rose calm = absurd is
stop_complete a NoQuery before after is rose calm = absurd is

pub stop_text : (command : Option Command) (text : List ℕ) (s : Status) → IsStop s → HasText command (err_by text s) s
stop_text command text ReadFault is = refl
stop_text command text NoMemory is = refl
stop_text command text Done is = absurd is
stop_text command text Raised is = absurd is
stop_text command text Refused is = absurd is
stop_text command text Usage is = absurd is
stop_text command text WriteFault is = absurd is
stop_text command text NoQuery is = absurd is

-- nothing is written
pub stop_output : (out : List ℕ) (s : Status) (wrote : Option (List ℕ)) → IsStop s → OutBy out s wrote wrote
stop_output out ReadFault wrote is = refl
stop_output out NoMemory wrote is = refl
stop_output out Done wrote is = absurd is
stop_output out Raised wrote is = absurd is
stop_output out Refused wrote is = absurd is
stop_output out Usage wrote is = absurd is
stop_output out WriteFault wrote is = absurd is
stop_output out NoQuery wrote is = absurd is
