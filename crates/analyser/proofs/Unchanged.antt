-- What changes no answer: reads in our log, and the bits that are not looked at.
use Rattle.std.proofs.Common.{◌≡◌, ℕ, Bool, true, false, cond, eqb, List, [], ◌∷◌, ◌++◌, map, ◌%◌, refl, ap, ap₂, append-nil, arith}
use Rattle.pages.specs.Written.{Write}
use Rattle.analyser.specs.declared.Comparison.TheVariants.{Equal}
use Rattle.analyser.specs.Comparison.{is_write, write_in, writes_logged, writes_caught, common, verdict, comparison_of}
use Rattle.analyser.specs.Answers.{AllReads}
use Rattle.analyser.proofs.Writes.{write_is}

pub logged_append : (k l : List ℕ) → writes_logged (k ++ l) ≡ writes_logged k ++ writes_logged l
unfolding writes_logged
logged_append [] l = refl
logged_append (entry ∷ k) l = go (is_write entry) (logged_append k l)
  where
    go : (b : Bool) → writes_logged (k ++ l) ≡ writes_logged k ++ writes_logged l
        → cond b (write_in entry ∷ writes_logged (k ++ l)) (writes_logged (k ++ l)) ≡ cond b (write_in entry ∷ writes_logged k) (writes_logged k) ++ writes_logged l
    go true h = ap (λ (ws : List Write). write_in entry ∷ ws) h
    go false h = h

pub no_writes : (reads : List ℕ) → AllReads reads → writes_logged reads ≡ []
unfolding writes_logged
no_writes [] h = refl
no_writes (entry ∷ reads) h = rw h.0 (no_writes reads h.1)

-- the answer is a function of the two sequences of writes
pub by_writes : (log1 analyser1 log2 analyser2 : List ℕ) → writes_logged log1 ≡ writes_logged log2 → writes_caught analyser1 ≡ writes_caught analyser2
    → comparison_of log1 analyser1 ≡ comparison_of log2 analyser2
by_writes log1 analyser1 log2 analyser2 e f = ap₂ verdict e f

-- so reads put in or taken out anywhere change nothing
pub reads_between : (before reads after analyser : List ℕ) → AllReads reads
    → comparison_of (before ++ reads ++ after) analyser ≡ comparison_of (before ++ after) analyser
reads_between before reads after analyser h =
    by_writes _ analyser _ analyser
    (rw (logged_append (before ++ reads) after, logged_append before reads, no_writes reads h, append-nil, logged_append before after) refl) refl

-- "Two empty lists are equal", and so is a log of reads alone with an empty list
pub reads_alone : (reads : List ℕ) → AllReads reads → comparison_of reads [] ≡ Equal
unfolding verdict common
reads_alone reads h = rw (no_writes reads h) refl

pub both_empty : comparison_of [] [] ≡ Equal
both_empty = reads_alone [] tt

-- bits of ours above 25, and of the analyser's above 24, are not looked at

low_logged : (log : List ℕ) → writes_logged (map (λ e. e % 0x4000000) log) ≡ writes_logged log
unfolding writes_logged
low_logged [] = refl
low_logged (entry ∷ log) =
    let mark : is_write (entry % 0x4000000) ≡ is_write entry = ap (λ k. eqb k 1) (omega arith) in
    let write : write_in (entry % 0x4000000) ≡ write_in entry = write_is (omega arith) (omega arith) in
    rw (mark, write, low_logged log) refl

low_caught : (list : List ℕ) → writes_caught (map (λ e. e % 0x2000000) list) ≡ writes_caught list
low_caught [] = refl
low_caught (entry ∷ list) = ap₂ (λ w ws. w ∷ ws) (write_is (omega arith) (omega arith)) (low_caught list)

pub upper_bits : (log analyser : List ℕ) → comparison_of (map (λ e. e % 0x4000000) log) (map (λ e. e % 0x2000000) analyser) ≡ comparison_of log analyser
upper_bits log analyser = by_writes _ _ log analyser (low_logged log) (low_caught analyser)
