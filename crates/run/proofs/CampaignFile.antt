-- The laws of the campaign file, over its definition, which the code equals: what is written is read back; a file is accepted exactly where
-- it is the file of contents within their bounds; a file is turned down exactly for the reasons of `TurnedDown`, where they are.
pub mod Groups
pub mod Number
pub mod InTurn
pub mod ReadBack
pub mod Accepts
pub mod Refuses
pub mod Examples
use Rattle.std.proofs.Common.{◌≡◌, ℕ, ◌↔◌, List, length, sym, ap, ◌∙◌, subst}
use Rattle.run.specs.CampaignFile.{read, refused, campaign_of, Contents, contents, file_of, Within, Bytes}
use Rattle.run.specs.CampaignRefusals.{TurnedDown}
use Rattle.run.specs.declared.campaign_file.Refusal.{Refusal}
use ReadBack.{read_back}
use Accepts.{accepts_only_written}
use Refuses.{refused_for, refused_so}

-- writing a campaign and reading it back is the identity
pub written_read_back : (c : Contents) → Within c → contents (file_of c) ≡ read c (length (file_of c))
written_read_back c h = read_back c h

-- a file is read, up to its end and no further, exactly where it is the file of contents within their bounds
pub accepted_iff : (bytes : List ℕ) (c : Contents) (next : ℕ) → Bytes bytes
    → (contents bytes ≡ read c next) ↔ ((bytes ≡ file_of c) × Within c × (next ≡ length bytes))
accepted_iff bytes c next bs = (only, back)
  where
    only : contents bytes ≡ read c next → (bytes ≡ file_of c) × Within c × (next ≡ length bytes)
    only e = let w = accepts_only_written bytes c next bs e in (w.is, w.within, w.all)

    back : (bytes ≡ file_of c) × Within c × (next ≡ length bytes) → contents bytes ≡ read c next
    back h = subst (λ (l : List ℕ). contents l ≡ read c (length l)) (sym h.0) (read_back c h.1) ∙ ap (read c) (sym h.2)

-- a file is turned down exactly for a reason of `TurnedDown`, with that refusal
pub refused_iff : (bytes : List ℕ) (stop : Refusal) → (campaign_of bytes 0 ≡ refused stop) ↔ TurnedDown bytes stop
refused_iff bytes stop = (refused_for bytes stop, refused_so bytes stop)
