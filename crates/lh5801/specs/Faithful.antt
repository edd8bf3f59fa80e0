-- A run's log, and the list of an analyser that has caught the run's writes.
use Rattle.std.specs.Prelude.{ℕ, List, map, take}
use Rattle.pages.specs.Prog.{write_of}
use Rattle.pages.specs.Written.{Write}
use Rattle.bus.specs.Log.{entry_of}
use Rattle.run.specs.BusLog.{Log}

-- a log is handed in as its used entries
abbrev pub used_entries : Log → List ℕ
used_entries log = take log.used log.entries

-- writes as an analyser's entries: "laid out as ours"
abbrev pub entries_of : List Write → List ℕ
entries_of writes = map (λ (w : Write). entry_of (write_of w.address w.byte)) writes
