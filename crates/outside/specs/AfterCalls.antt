-- What a call makes or leaves of the objects that stand in memory.
use Rattle.std.specs.Prelude.{ℕ, Bool, ◌++◌, List, [], Result, Ok, Err, take, nat_lt}
use Rattle.outside.specs.Counted.{count_up, count_if}
use Rattle.outside.specs.World.{World}
use Rattle.outside.specs.InMemory.{CountedFiles, SlowFiles, FailingFiles, FailingBytes, BoundedSink}
use Rattle.outside.specs.declared.input.OpenFault.{OpenFault}
use Rattle.outside.specs.declared.input.OpenFault.TheVariants.{Missing, Failed}
use Rattle.outside.specs.declared.sink.Failed as sink

-- files before their first call
abbrev pub new_files : World → CountedFiles
new_files w = record { files = w; misses = 0; opened = 0; closed = 0 }

abbrev pub new_slow : World → ℕ → SlowFiles
new_slow w most = record { table = new_files w; most = most }

abbrev pub new_failing : World → List ℕ → List (ℕ × ℕ) → FailingFiles
new_failing w opens calls = record {
  table = new_files w;
  failing_opens = opens;
  failing_calls = calls;
  opens = 0;
  faults = 0;
}

-- one more miss, or one more file given out, by the answer
abbrev pub after_open : {F : Type 0} → CountedFiles → Result F OpenFault → CountedFiles
after_open s (Ok f) = record s { opened = count_up s.opened }
after_open s (Err Missing) = record s { misses = count_up s.misses }
after_open s (Err _) = s

-- one more file taken back
abbrev pub after_close : CountedFiles → CountedFiles
after_close s = record s { closed = count_up s.closed }

abbrev pub after_slow_open : {F : Type 0} → SlowFiles → Result F OpenFault → SlowFiles
after_slow_open s answer = record s { table = after_open s.table answer }

abbrev pub after_slow_close : SlowFiles → SlowFiles
after_slow_close s = record s { table = after_close s.table }

-- one more fault where the open failed
abbrev pub faults_after : {F : Type 0} → Result F OpenFault → ℕ → ℕ
faults_after (Err Failed) n = count_up n
faults_after _ n = n

-- one more open was asked for
abbrev pub after_failing_open : {F : Type 0} → FailingFiles → Result F OpenFault → FailingFiles
after_failing_open s answer = record s {
  table = after_open s.table answer;
  opens = count_up s.opens;
  faults = faults_after answer s.faults;
}

-- one more fault where the file that was taken back had any
abbrev pub after_failing_close : FailingFiles → FailingBytes → FailingFiles
after_failing_close s f = record s {
  table = after_close s.table;
  faults = count_if (nat_lt 0 f.faults) s.faults;
}

-- the file that an open gave, once it was counted
abbrev pub fresh_file : FailingFiles → List ℕ → FailingBytes
fresh_file s bytes = record {
  held = bytes;
  number = s.opens;
  failing_calls = s.failing_calls;
  calls = 0;
  faults = 0;
}

-- one more call, and one more fault where it failed
abbrev pub after_call : FailingBytes → Bool → FailingBytes
after_call f failed = record f { calls = count_up f.calls; faults = count_if failed f.faults }

-- a sink before its first write
abbrev pub new_sink : ℕ → ℕ → BoundedSink
new_sink room most = record { label = 0; written = []; room = room; most = most; faults = 0 }

-- the bytes that were taken were added, or one more fault was counted
abbrev pub after_write : BoundedSink → List ℕ → Result ℕ sink.Failed → BoundedSink
after_write s bytes (Ok n) = record s { written = s.written ++ take n bytes }
after_write s bytes (Err e) = record s { faults = count_up s.faults }
