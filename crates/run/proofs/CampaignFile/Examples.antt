-- Files that are turned down, computed from the definition.
use Rattle.std.proofs.Common.{ℕ, Bool, true, false, ◌&&◌, T, eqb, List, [], ◌∷◌, ◌++◌, replicate}
use Rattle.run.specs.CampaignFile.{Field, read, refused, refusal_number, refusal_offset, number_of, numbers_of, bytes_of, page_of, ended, campaign_of}
use Rattle.run.specs.declared.campaign_file.Parsed.{Parsed}

-- files that are turned down, each with document 01's number and offset
pub record Case : Type 0 where
  pub bytes : List ℕ
  pub number : ℕ
  pub offset : ℕ

abbrev case : List ℕ → ℕ → ℕ → Case
case bytes number offset = record { bytes = bytes; number = number; offset = offset }

-- so many fields that are 0, then these bytes
abbrev zeros : ℕ → List ℕ → List ℕ
zeros n bytes = replicate n 0 ++ bytes

pub cases : List Case
cases =
    -- nothing; an end inside A, after two groups, one and nine; A not shortest, not in eight bits, of over ten groups; no T; a T of 383
    case [] 8 0
    ∷ case (0xFF ∷ 0xFF ∷ []) 8 0
    ∷ case (0x80 ∷ []) 8 0
    ∷ case (replicate 9 0x80) 8 0
    ∷ case (0x80 ∷ 0x00 ∷ []) 9 0
    ∷ case (0x80 ∷ 0x02 ∷ []) 9 0
    ∷ case (replicate 10 0x80) 9 0
    ∷ case (0x05 ∷ []) 8 1
    ∷ case (0x00 ∷ 0xFF ∷ 0x02 ∷ []) 9 1
    -- TM 4,096; flags 512; timer states of 2 ^ 64 and with a top bit set on the tenth group; a limit of 2 ^ 32
    ∷ case (zeros 7 (0x80 ∷ 0x20 ∷ [])) 9 7
    ∷ case (zeros 8 (0x80 ∷ 0x04 ∷ [])) 9 8
    ∷ case (zeros 9 (replicate 9 0xFF ++ (0x02 ∷ []))) 9 9
    ∷ case (zeros 9 (replicate 9 0xFF ++ (0x81 ∷ []))) 9 9
    ∷ case (zeros 13 (0x80 ∷ 0x80 ∷ 0x80 ∷ 0x80 ∷ 0x10 ∷ [])) 9 13
    -- page 0 of 16,385 bytes, of 16,384 with none there, of two with one there; no page 1; page 1 of one byte with none there; a byte left over
    ∷ case (zeros 14 (0x81 ∷ 0x80 ∷ 0x01 ∷ [])) 9 14
    ∷ case (zeros 14 (0x80 ∷ 0x80 ∷ 0x01 ∷ [])) 8 17
    ∷ case (zeros 14 (0x02 ∷ 0x00 ∷ [])) 8 15
    ∷ case (zeros 14 (0x00 ∷ [])) 8 15
    ∷ case (zeros 14 (0x00 ∷ 0x01 ∷ [])) 8 16
    ∷ case (zeros 14 (0x00 ∷ 0x00 ∷ 0x00 ∷ [])) 10 16
    ∷ []

-- the file is turned down with the case's number and offset
agrees : Case → Field Parsed → Bool
agrees c (read parsed next) = false
agrees c (refused stop) = eqb (refusal_number stop) c.number && eqb (refusal_offset stop) c.offset

pub all_agree : List Case → Bool
all_agree [] = true
all_agree (c ∷ cs) = agrees c (campaign_of c.bytes 0) && all_agree cs

pub turned_down : T (all_agree cases)
unfolding all_agree agrees cases campaign_of numbers_of page_of bytes_of number_of ended
turned_down = tt
