-- The pages before a call, and the comparison of a line.
use Rattle.std.specs.Prelude.{ℕ, zero, suc, ◌+◌, ◌*◌, Bool, cond, not, List, [], ◌∷◌, length, ◌==◌, nat_eq, nat_le, slice_set}
use Rattle.std.specs.Cmp.Lexicographic.{pointwise}
use Rattle.run.specs.declared.campaign_file.PagePlace.{PagePlace}
use Rattle.run.specs.Parts.{part, at_start}
use Rattle.replay.specs.declared.Rule.{Rule}
use Rattle.replay.specs.Numbers.{next_byte_of}

-- so many bytes by the fill rule, from offset i on, of which this is the first
unfoldable pub rule_bytes : ℕ → ℕ → ℕ → ℕ → List ℕ
rule_bytes zero byte step i = []
rule_bytes (suc more) byte step i = byte ∷ rule_bytes more (next_byte_of byte step (i + 1)) step (i + 1)

-- a page, its first bytes by the fill rule
unfoldable pub fill_of : List ℕ → ℕ → ℕ → ℕ → List ℕ
fill_of page len first step = at_start page (rule_bytes len first step 0)

-- a page with a part of the file at its start; the page as it was where the part is not all there or does not fit
unfoldable pub copy_page_of : List ℕ → ℕ → List ℕ → ℕ → List ℕ
copy_page_of bytes at page len =
    cond (nat_le (at + len) (length bytes)) (cond (nat_le len (length page)) (at_start page (part bytes at len)) page) page

-- a page with one byte set, where it is this page's; a byte past the end is dropped
unfoldable pub set_of : List ℕ → Bool → ℕ → ℕ → List ℕ
set_of page here offset byte = cond here (slice_set page offset byte) page

-- a page with its bytes of the groups of four set, in their order: the offset in two bytes, the page, and the byte. Fewer than four bytes set nothing
unfoldable pub patch_of : List ℕ → ℕ → List ℕ → List ℕ
patch_of page which (low ∷ high ∷ number ∷ byte ∷ more) = patch_of (set_of page (number == which) (low + 256 * high) byte) which more
patch_of page which [] = page
patch_of page which (low ∷ []) = page
patch_of page which (low ∷ high ∷ []) = page
patch_of page which (low ∷ high ∷ number ∷ []) = page

-- a page before the bytes that are set: the fill rule, then the file's bytes
unfoldable pub filled_page_of : List ℕ → ℕ → Rule → List ℕ → PagePlace → List ℕ
filled_page_of page len rule file place = copy_page_of file place.at (fill_of page len rule.first rule.step) place.len

-- two lists are not the same bytes
abbrev pub bytes_differ : List ℕ → List ℕ → Bool
bytes_differ found want = not (pointwise nat_eq found want)
