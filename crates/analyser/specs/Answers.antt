-- What an answer says of the two sequences of writes.
use Rattle.std.specs.Prelude.{◌≡◌, ℕ, false, ◌≤◌, ◌≢◌, List, [], ◌∷◌, ◌++◌, length}
use Rattle.pages.specs.Written.{Write}
use Rattle.analyser.specs.declared.Comparison.{Comparison}
use Rattle.analyser.specs.declared.Comparison.TheVariants.{Equal, Differ, LogEnded, AnalyserEnded}
use Rattle.analyser.specs.Comparison.{is_write}

-- they are the same; or they begin with the same writes, and the next ones differ; or one is the other's beginning, and there it has ended
pub data Says (ours theirs : List Write) : Comparison → Type 0 where
  equal : ours ≡ theirs → Says ours theirs Equal
  differ : (first : List Write) (v w : Write) (vs ws : List Write) → ours ≡ first ++ v ∷ vs → theirs ≡ first ++ w ∷ ws → v ≢ w
      → Says ours theirs (Differ (length first))
  log_ended : (w : Write) (ws : List Write) → theirs ≡ ours ++ w ∷ ws → Says ours theirs (LogEnded (length ours))
  analyser_ended : (v : Write) (vs : List Write) → ours ≡ theirs ++ v ∷ vs → Says ours theirs (AnalyserEnded (length theirs))

-- a sequence begins with these writes
abbrev pub Begins : List Write → List Write → Type 0
Begins first ws = (rest : List Write) × (ws ≡ first ++ rest)

-- n is the length of the longest common beginning: the writes `first` are one, of that length, and none is longer
pub record Longest (ours theirs : List Write) (n : ℕ) : Type 0 where
  pub first : List Write
  pub in_ours : Begins first ours
  pub in_theirs : Begins first theirs
  pub long : length first ≡ n
  pub most : (other : List Write) → Begins other ours → Begins other theirs → length other ≤ n

-- entries of our log that are reads
abbrev pub AllReads : List ℕ → Type 0
AllReads [] = Unit {0}
AllReads (entry ∷ entries) = (is_write entry ≡ false) × AllReads entries
