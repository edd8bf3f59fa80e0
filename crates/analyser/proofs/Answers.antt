-- What each answer says, and that its place is the length of the longest common beginning.
use Rattle.std.proofs.Common.{◌≡◌, ℕ, ◌+◌, ◌≤◌, ◌≢◌, ◌↔◌, Bool, true, false, List, [], ◌∷◌, ◌++◌, length, sym, refl, ap, ◌∙◌, append-nil, append_assoc, length-append, add-zero, zero-add, le_refl, arith}
use mathlib.Core.List.{head-eq_of_cons-eq, tail-eq_of_cons-eq}
use Rattle.std.proofs.lemmas.Bool.Decides.{not_from_Decides}
use Rattle.pages.specs.Written.{Write}
use Rattle.analyser.specs.declared.Comparison.{Comparison}
use Rattle.analyser.specs.declared.Comparison.TheVariants.{Equal, Differ, LogEnded, AnalyserEnded}
use Rattle.analyser.specs.Comparison.{writes_logged, writes_caught, same_write, comparison_of, place_of}
use Rattle.analyser.proofs.Writes.{same_decides}
use Rattle.analyser.proofs.Verdict.{ahead, from_start, ahead_equal, ahead_common, ahead_differ, ahead_log_ended, ahead_analyser_ended}
use Rattle.analyser.specs.Answers.{Says, equal, differ, log_ended, analyser_ended, Begins, Longest}

not_same : (v w : Write) → v ≢ w → same_write v w ≡ false
not_same v w n = go (same_write v w) refl
  where
    go : (b : Bool) → same_write v w ≡ b → b ≡ false
    go true e = absurd (n ((same_decides v w).0 e))
    go false e = refl

-- ---- what the answer says

says_after : (first vs ws : List Write) → Says (first ++ vs) (first ++ ws) (ahead (length first) vs ws)
says_after first [] [] = rw (ahead_equal (length first)) (equal refl)
says_after first [] (w ∷ ws) = rw (ahead_log_ended (length first) w ws, append-nil first) (log_ended w ws refl)
says_after first (v ∷ vs) [] = rw (ahead_analyser_ended (length first) v vs, append-nil first) (analyser_ended v vs refl)
says_after first (v ∷ vs) (w ∷ ws) = go (same_write v w) refl (says_after (first ++ v ∷ []) vs ws)
  where
    go : (b : Bool) → same_write v w ≡ b → Says ((first ++ v ∷ []) ++ vs) ((first ++ v ∷ []) ++ ws) (ahead (length (first ++ v ∷ [])) vs ws)
        → Says (first ++ v ∷ vs) (first ++ w ∷ ws) (ahead (length first) (v ∷ vs) (w ∷ ws))
    go true e h =
        rw (ahead_common (length first) v w vs ws e, ← (same_decides v w).0 e)
        (rw (append_assoc first (v ∷ []) vs, append_assoc first (v ∷ []) ws, length-append first (v ∷ [])) at h)
    go false e h =
        rw (ahead_differ (length first) v w vs ws e)
        (differ first v w vs ws refl refl (not_from_Decides (same_write v w) (same_decides v w) e))

-- ---- and no other answer says so

after_first : (n : ℕ) (first vs ws : List Write) → ahead n (first ++ vs) (first ++ ws) ≡ ahead (n + length first) vs ws
after_first n [] vs ws = rw add-zero refl
after_first n (v ∷ first) vs ws =
    let e : n + 1 + length first ≡ n + length (v ∷ first) = omega arith in
    ahead_common n v v (first ++ vs) (first ++ ws) ((same_decides v v).1 refl) ∙ after_first (n + 1) first vs ws ∙ ap (λ k. ahead k vs ws) e

-- where both begin with `first`, and the answer for the rest is c at any length, it is c at the length of `first`
begun : (ours theirs first vs ws : List Write) (c : ℕ → Comparison) → ours ≡ first ++ vs → theirs ≡ first ++ ws → ((n : ℕ) → ahead n vs ws ≡ c n)
    → ahead 0 ours theirs ≡ c (length first)
begun ours theirs first vs ws c e f h = rw (e, f) (after_first 0 first vs ws ∙ rw zero-add (h (length first)))

answer_is : (ours theirs : List Write) (c : Comparison) → Says ours theirs c → ahead 0 ours theirs ≡ c
answer_is ours theirs c (equal e) = begun ours theirs theirs [] [] (λ n. Equal) (e ∙ sym (append-nil theirs)) (sym (append-nil theirs)) ahead_equal
answer_is ours theirs c (differ first v w vs ws e f n) =
    begun ours theirs first (v ∷ vs) (w ∷ ws) Differ e f (λ k. ahead_differ k v w vs ws (not_same v w n))
answer_is ours theirs c (log_ended w ws e) =
    begun ours theirs ours [] (w ∷ ws) LogEnded (sym (append-nil ours)) e (λ k. ahead_log_ended k w ws)
answer_is ours theirs c (analyser_ended v vs e) =
    begun ours theirs theirs (v ∷ vs) [] AnalyserEnded e (sym (append-nil theirs)) (λ k. ahead_analyser_ended k v vs)

-- ---- the place is the length of the longest common beginning

-- where the rests have no write in common, none is longer
none_longer : (first vs ws : List Write) → ((other : List Write) → Begins other vs → Begins other ws → other ≡ [])
    → (other : List Write) → Begins other (first ++ vs) → Begins other (first ++ ws) → length other ≤ length first
none_longer [] vs ws h other a b = rw (h other a b) (le_refl 0)
none_longer (v ∷ first) vs ws h [] a b = omega arith
none_longer (v ∷ first) vs ws h (w ∷ other) a b =
    omega (arith, none_longer first vs ws h other (a.0, tail-eq_of_cons-eq a.1) (b.0, tail-eq_of_cons-eq b.1))

begins_none : (other : List Write) → Begins other [] → other ≡ []
begins_none [] a = refl
begins_none (v ∷ other) a = absurd (omega (arith, ap length a.1))

begins_other : (v w : Write) (vs ws : List Write) → v ≢ w → (other : List Write) → Begins other (v ∷ vs) → Begins other (w ∷ ws) → other ≡ []
begins_other v w vs ws n [] a b = refl
begins_other v w vs ws n (x ∷ other) a b = absurd (n (head-eq_of_cons-eq a.1 ∙ sym (head-eq_of_cons-eq b.1)))

-- both begin with `first`, and their rests have no write in common
first_longest : (ours theirs first vs ws : List Write) → ours ≡ first ++ vs → theirs ≡ first ++ ws
    → ((other : List Write) → Begins other vs → Begins other ws → other ≡ [])
    → Longest ours theirs (length first)
first_longest ours theirs first vs ws e f h =
    rw (e, f) (record { first = first; in_ours = (vs, refl); in_theirs = (ws, refl); long = refl; most = none_longer first vs ws h })

longest_of : (ours theirs : List Write) (c : Comparison) → Says ours theirs c → c ≢ Equal → Longest ours theirs (place_of c)
longest_of ours theirs c (equal e) n = absurd (n refl)
longest_of ours theirs c (differ first v w vs ws e f d) n = first_longest ours theirs first (v ∷ vs) (w ∷ ws) e f (begins_other v w vs ws d)
longest_of ours theirs c (log_ended w ws e) n =
    first_longest ours theirs ours [] (w ∷ ws) (sym (append-nil ours)) e (λ other a b. begins_none other a)
longest_of ours theirs c (analyser_ended v vs e) n =
    first_longest ours theirs theirs (v ∷ vs) [] e (sym (append-nil theirs)) (λ other a b. begins_none other b)

module _ (log analyser : List ℕ) where
  abbrev ours : List Write
  ours = writes_logged log

  abbrev theirs : List Write
  theirs = writes_caught analyser

  -- each answer is given exactly where what it says is so
  pub answer_iff : (c : Comparison) → comparison_of log analyser ≡ c ↔ Says ours theirs c
  answer_iff c = (
    λ e. rw (← e, from_start ours theirs) (says_after [] ours theirs),
    λ s. from_start ours theirs ∙ answer_is ours theirs c s,
  )

  -- "'Equal' is given precisely for the same sequence of writes"
  pub equal_iff : comparison_of log analyser ≡ Equal ↔ (ours ≡ theirs)
  equal_iff = (λ e. equal_says ours theirs ((answer_iff Equal).0 e), λ e. (answer_iff Equal).1 (equal e))
    where
      equal_says : (l k : List Write) → Says l k Equal → l ≡ k
      equal_says l k (equal e) = e

  pub place_longest : comparison_of log analyser ≢ Equal → Longest ours theirs (place_of (comparison_of log analyser))
  place_longest n = longest_of ours theirs _ ((answer_iff _).0 refl) n
