-- The words of the contracts: a function that is lent the memory does what an access program does.
use Rattle.std.specs.Prelude.{◌≡◌}
use Rattle.std.specs.Borrow.{MutBor}
use denote.Triple.Both.{Both}
use Rattle.pages.specs.declared.Memory.{Memory}
use Rattle.pages.specs.declared.View.{View}
use Rattle.pages.specs.Pages.{Pages, pages}
use Rattle.pages.specs.Prog.{Prog, exec}

-- the pages that a memory holds
abbrev pub held : Memory → Pages
held memory = pages memory.page0.now memory.page1.now memory.read_only

-- two memories hold the same lent pages, whatever their bytes are: what is left in the one is left with the lender of the other
pub record SameLent (l n : Memory) : Type 0 where
  pub page0 : n.page0.ghost_name ≡ l.page0.ghost_name
  pub page1 : n.page1.ghost_name ≡ l.page1.ghost_name

-- from the memory l, the program p gives r and leaves the memory n
pub record Does {A : Type 0} (p : Prog A) (l : Memory) (r : A) (n : Memory) : Type 0 where
  pub value : r ≡ (exec p (held l)).answer
  pub pages : (exec p (held l)).pages ≡ held n
  pub lent : SameLent l n

-- the memory as a function gets it lent, at entry and at exit
abbrev pub LentMemory : Type 0
LentMemory = Both (MutBor Memory) (MutBor Memory)

abbrev pub at_entry : LentMemory → Pages
at_entry memory = held memory.entry.now

-- from the memory at entry, p gives r and leaves the memory at exit
abbrev pub Changes : {A : Type 0} → Prog A → LentMemory → A → Type 0
Changes p memory r = Does p memory.entry.now r memory.exit.now

-- the same of pages that are only read: p gives r and leaves them as they are
pub record Gives {A : Type 0} (p : Prog A) (q : Pages) (r : A) : Type 0 where
  pub value : r ≡ (exec p q).answer
  pub pages : (exec p q).pages ≡ q

-- the pages that a view shows
abbrev pub seen : View → Pages
seen view = pages view.page0.now view.page1.now view.read_only

abbrev pub as_shared : Both View View → Pages
as_shared view = seen view.entry

abbrev pub Reads : {A : Type 0} → Prog A → Both View View → A → Type 0
Reads p view r = Gives p (as_shared view) r
