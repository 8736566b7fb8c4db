use Rattle.std.proofs.Common.{◌∙◌, arith, pos, ◌+◌, ◌*◌, ◌^◌, ◌-ℤ◌, ◌*ℤ◌, FitsSigned, w32, w64, to_z-of_z}
use Rattle.jiff.proofs.SpanFacts.{signed_arith}
use Rattle.date_atoms.proofs.SaidTexts.{no_moment_short, no_moment_date, no_moment_time, no_moment_tail, moment_read, offset_small}
use Rattle.date_atoms.proofs.read.read_date_time.Goals as goal

pub returns-then-bytes-lt-DATE_LEN : goal.returns-then-bytes-lt-DATE_LEN
returns-then-bytes-lt-DATE_LEN c = rw c.as_bytes-bytes.ensures.value at (no_moment_short c.as_bytes-bytes.result.now c.as_bytes-bytes.ensures.utf8 c.if-bytes-lt-DATE_LEN.true)

pub returns-in_err-day : goal.returns-in_err-day
returns-in_err-day c =
    rw c.from_residual.ensures
    (rw c.as_bytes-bytes.ensures.value at (no_moment_date c.as_bytes-bytes.result.now c.split_at.result.0.now c.as_bytes-bytes.ensures.utf8 c.split_at.ensures.front c.in_err-day.ensures))

pub returns-in_err-seconds : goal.returns-in_err-seconds
returns-in_err-seconds c =
    rw c.from_residual-in_err-seconds.ensures
    (rw c.as_bytes-bytes.ensures.value at (no_moment_time c.as_bytes-bytes.result.now c.split_at.result.1.now c.as_bytes-bytes.ensures.utf8 c.split_at.ensures.back c.in_err-seconds.ensures))

pub returns-in_err-fraction : goal.returns-in_err-fraction
returns-in_err-fraction c =
    rw c.from_residual-in_err-fraction.ensures
    (rw c.as_bytes-bytes.ensures.value at (no_moment_tail c.as_bytes-bytes.result.now c.split_at.result.1.now c.in_ok-seconds.seconds c.in_ok-seconds.tail.now c.as_bytes-bytes.ensures.utf8 c.split_at.ensures.back c.in_ok-seconds.ensures c.in_err-fraction.ensures))

pub returns : goal.returns
returns c =
    let tail = c.in_ok-fraction.ensures in
    let small = offset_small tail.1 tail.2.1 in
    let fits : FitsSigned w32 c.in_ok-fraction.ahead = rw tail.4 (omega (arith, signed_arith, small)) in
    let nanos = c.nanos_in_utc.ensures ∙ (λ i. pos (c.in_ok-seconds.seconds * 10 ^ 9 + tail.3 i) -ℤ (to_z-of_z fits ∙ tail.4) i *ℤ pos (60 * 10 ^ 9)) in
    let in_range : FitsSigned w64 c.nanos_in_utc.result = record { sfits = c.nanos_in_utc.type_inv } in
    let found = rw (to_z-of_z in_range) at c.moment_since.ensures in
    rw c.as_bytes-bytes.ensures.value at
    (moment_read c.moment_since.result c.as_bytes-bytes.result.now c.split_at.result.0.now c.split_at.result.1.now c.in_ok-seconds.tail.now c.in_ok-day.day c.in_ok-seconds.seconds tail.0 tail.1 c.nanos_in_utc.result
    (record {
      text = c.as_bytes-bytes.ensures.utf8;
      front = c.split_at.ensures.front;
      back = c.split_at.ensures.back;
      date_is = c.in_ok-day.ensures;
      time_is = c.in_ok-seconds.ensures;
      tail_reads = tail.2;
    })
    nanos found)
