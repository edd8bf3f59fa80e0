-- The read-only part of page 0 (document 02, F-4): which writes it drops, and that it changes nothing else.
use Rattle.std.proofs.Common.{◌≡◌, ℕ, ◌-◌, ◌<◌, ◌≤◌, ◌↔◌, Bool, true, false, cond, not, ◌&&◌, T, eqb, ltb, leb, List, [], ◌∷◌, length, sym, refl, ◌∙◌, subst, eqb-true, arith, ltb-true, lt-ltb, le-ltb, leb-true, le-leb}
use Rattle.std.proofs.Math.Bool.{and-true}
use Rattle.std.proofs.lemmas.Bool.{and_parts, not-true}
use lib.Dec.{eqb_refl}
use Rattle.arithmetic.specs.declared.record.Lh5801.{Lh5801}
use Rattle.arithmetic.specs.Record.{with_s}
use Rattle.pages.specs.declared.ReadOnly.{ReadOnly}
use Rattle.pages.specs.Pages.{Pages, pages, no_read_only, at, inside, protected, stored, store}
use Rattle.pages.specs.Prog.{Access, read_of, write_of, ◌>>=◌, write, after, exec}
use Rattle.pages.specs.Stack.{down16, push_of}
use Rattle.pages.specs.Written.{Write, latest, Written, is_read, NotReadBack}
use Rattle.pages.proofs.Pages.{store_layout, at_store}
use Rattle.pages.proofs.Agree.{or_left, or_right, Carried}

-- an address is protected exactly where it is one of page 0, not below the first and below the end
pub protected_iff : (r : ReadOnly) (a : ℕ) → protected r a ≡ true ↔ ((a < 0x10000) × (r.first ≤ a) × (a < r.end))
unfolding protected
protected_iff r a = (to, λ h. rw (lt-ltb a 0x10000 h.0, le-leb r.first a h.1, lt-ltb a r.end h.2) refl)
  where
    to : protected r a ≡ true → (a < 0x10000) × (r.first ≤ a) × (a < r.end)
    to h =
        let x = and_parts (ltb a 0x10000) (leb r.first a && ltb a r.end) h in
        let y = and_parts (leb r.first a) (ltb a r.end) x.1 in
        (ltb-true a 0x10000 x.0, leb-true r.first a y.0, ltb-true a r.end y.1)

-- so with the end at or below the first none is
pub none_protected : (r : ReadOnly) (a : ℕ) → r.end ≤ r.first → protected r a ≡ false
none_protected r a h = go (protected r a) refl
  where
    go : (t : Bool) → protected r a ≡ t → t ≡ false
    go true e = let i = (protected_iff r a).0 e in absurd (omega (arith, h, i.1, i.2))
    go false e = refl

-- and of page 1 none is, whatever the end is
pub page1_not_protected : (r : ReadOnly) (a : ℕ) → 0x10000 ≤ a → protected r a ≡ false
unfolding protected
page1_not_protected r a h = rw (le-ltb a 0x10000 h)

-- a write is stored exactly where a lent page has the byte and it is not protected
pub stored_iff : (m : Pages) (a : ℕ) → stored m a ≡ true ↔ ((inside m a ≡ true) × (protected m.read_only a ≡ false))
unfolding stored
stored_iff m a =
    (λ h. let x = and_parts (inside m a) (not (protected m.read_only a)) h in (x.0, not-true (protected m.read_only a) x.1), λ h. rw (h.0, h.1) refl)

-- by the page that it goes to: on page 0 where the page has the byte and it is not protected, on page 1 where the page has it
pub stored_page0 : (l0 l1 : List ℕ) (r : ReadOnly) (a : ℕ) → a < 0x10000 → stored (pages l0 l1 r) a ≡ ltb a (length l0) && not (protected r a)
unfolding stored inside
stored_page0 l0 l1 r a h = rw (lt-ltb a 0x10000 h)

pub stored_page1 : (l0 l1 : List ℕ) (r : ReadOnly) (a : ℕ) → 0x10000 ≤ a → stored (pages l0 l1 r) a ≡ ltb (a - 0x10000) (length l1)
unfolding stored inside
stored_page1 l0 l1 r a h = rw (le-ltb a 0x10000 h, page1_not_protected r a h) (and-true (ltb (a - 0x10000) (length l1)))

-- a protected byte is, after any writes, what it was
pub written_protected : {m e : Pages} {ws : List Write} → Written m ws e → (a : ℕ) → protected m.read_only a ≡ true → at e a ≡ at m a
unfolding stored
written_protected {m} {e} {ws} w a p = w.bytes a ∙ rw p (go (inside m a))
  where
    go : (i : Bool) → cond (i && not true) (latest a ws (at m a)) (at m a) ≡ at m a
    go true = refl
    go false = refl

-- a push writes, and moves S, whether or not the byte is stored
pub pushed : (m : Lh5801) (v : ℕ) (p : Pages)
    → exec (push_of m v) p ≡ record { answer = with_s m (down16 m.s); pages = store p m.s v; accesses = write_of m.s v ∷ [] }
unfolding exec after push_of write ◌>>=◌
pushed m v p = refl

-- ---- where no byte of it is read after a dropped write, it changes nothing but its own bytes

-- pages of equal lengths, of which the second have nothing read-only, that agree wherever the accesses t read; and of the first's part t reads no byte back
pub record Unread (t : List Access) (m n : Pages) : Type 0 where
  pub page0 : length m.page0 ≡ length n.page0
  pub page1 : length m.page1 ≡ length n.page1
  pub none : n.read_only ≡ no_read_only
  pub agree : (a : ℕ) → T (is_read a t) → at n a ≡ at m a
  pub not_back : NotReadBack m.read_only t

unread_read : (m n : Pages) (b v : ℕ) (t : List Access) → Unread (read_of b v ∷ t) m n → Unread t m n
unfolding is_read NotReadBack
unread_read m n b v t h = record {
  page0 = h.page0;
  page1 = h.page1;
  none = h.none;
  agree = λ a r. h.agree a (or_right (eqb a b) (is_read a t) r);
  not_back = h.not_back;
}

unread_here : (m n : Pages) (b v : ℕ) (t : List Access) → Unread (read_of b v ∷ t) m n → at n b ≡ at m b
unfolding is_read
unread_here m n b v t h = h.agree b (or_left (eqb b b) (is_read b t) (eqb_refl b))

-- a write to a byte that is not protected is stored on both sides or on neither
pub unread_stored : (m n : Pages) (a : ℕ) {t : List Access} → Unread t m n → protected m.read_only a ≡ false → stored n a ≡ stored m a
unfolding stored inside
unread_stored m n a h p = rw (p, h.none, none_protected no_read_only a (omega arith), ← h.page0, ← h.page1)

unread_write : (m n : Pages) (b v : ℕ) (t : List Access) → Unread (write_of b v ∷ t) m n → Unread t (store m b v) (store n b v)
unfolding is_read NotReadBack
unread_write m n b v t h =
    let l = store_layout m b v in
    let k = store_layout n b v in
    record {
      page0 = sym l.page0 ∙ h.page0 ∙ k.page0;
      page1 = sym l.page1 ∙ h.page1 ∙ k.page1;
      none = sym k.read_only ∙ h.none;
      agree = λ a r. at_store n b v a ∙ same a r (eqb a b) refl (protected m.read_only a) refl ∙ sym (at_store m b v a);
      not_back = subst (λ (p : ReadOnly). NotReadBack p t) l.read_only h.not_back.1;
    }
  where
    elsewhere : (s : Bool) (x : ℕ) → cond (s && false) v x ≡ x
    elsewhere true x = refl
    elsewhere false x = refl

    same : (a : ℕ) → T (is_read a t) → (e : Bool) → eqb a b ≡ e → (p : Bool) → protected m.read_only a ≡ p
        → cond (stored n a && e) v (at n a) ≡ cond (stored m a && e) v (at m a)
    same a r true is true p =
        let into : T (protected m.read_only b) = subst (λ x. T (protected m.read_only x)) (eqb-true a b is) (rw p tt) in
        let back : T (is_read b t) = subst (λ x. T (is_read x t)) (eqb-true a b is) r in
        absurd (rw (h.not_back.0 into) at back)
    same a r true is false p = rw (unread_stored m n a h p, h.agree a r) refl
    same a r false is q p = elsewhere (stored n a) (at n a) ∙ h.agree a r ∙ sym (elsewhere (stored m a) (at m a))

pub unread : Carried Unread
unread = record { same_read = unread_here; then_read = unread_read; then_write = unread_write }
