-- A file that is read holds its two pages whole; what the code's answer says of the definition's report.
use Rattle.std.specs.Prelude.{Result, Ok, Err, None}
use Rattle.std.proofs.Common.{◌≡◌, ℕ, ◌+◌, ◌≤◌, List, length, ap, ◌∙◌}
use Rattle.run.specs.declared.campaign_file.PagePlace.{PagePlace}
use Rattle.run.specs.declared.campaign_file.Parsed.{Parsed}
use Rattle.run.specs.declared.campaign_file.Refusal.{Refusal}
use Rattle.run.specs.CampaignFile.{read, longest, campaign_of, refusal_number, refusal_offset}
use Rattle.run.specs.Code.FileAnswers.{field_of}
use Rattle.run.specs.Run.{call_of}
use Rattle.run.specs.Line.{refusal_line_of}
use Rattle.run.specs.Report.{pages_in, settings_in, answer_line, report_of}
use Rattle.run.proofs.CampaignFile.Number.{number_within}
use Rattle.run.proofs.CampaignFile.InTurn.{PageIs, file_parts}

-- where a page lies in the file
pub record PageInFile (bytes : List ℕ) (at len : ℕ) : Type 0 where
  pub inside : at + len ≤ length bytes
  pub short : len ≤ 16384

page_within : (bytes : List ℕ) (at : ℕ) (page : PagePlace) (next : ℕ) → PageIs bytes at page next → PageInFile bytes page.at page.len
page_within bytes at page next p = record { inside = p.inside; short = (number_within longest bytes at page.len page.at p.was).0 }

-- a campaign file that is read holds both pages
pub record PagesInFile (bytes : List ℕ) (c : Parsed) : Type 0 where
  pub first : PageInFile bytes c.page0.at c.page0.len
  pub second : PageInFile bytes c.page1.at c.page1.len

pub campaign_within : (bytes : List ℕ) (c : Parsed) (n : ℕ) → campaign_of bytes 0 ≡ read c n → PagesInFile bytes c
campaign_within bytes c n e =
    let f = file_parts bytes c n e in
    rw (← f.parts_are)
    (record {
      first = page_within bytes f.place0 f.page0 f.place1 f.first;
      second = page_within bytes f.place1 f.page1 n f.second;
    })

-- what the reader's answer says of the definition's report
module _ (bytes : List ℕ) {x : Result Parsed Refusal} (is_answer : campaign_of bytes 0 ≡ field_of x (length bytes)) where
  pub file_within : {c : Parsed} → x ≡ Ok c → PagesInFile bytes c
  file_within {c} g = campaign_within bytes c (length bytes) (is_answer ∙ ap (λ (r : Result Parsed Refusal). field_of r (length bytes)) g)

  pub report_read : {c : Parsed} → x ≡ Ok c → report_of bytes ≡ answer_line (call_of (settings_in c.asked) None c.cpu (pages_in bytes c)).answer
  unfolding report_of
  report_read g = rw (is_answer, g)

  pub report_refused : {s : Refusal} → x ≡ Err s → report_of bytes ≡ refusal_line_of (refusal_number s) (refusal_offset s)
  unfolding report_of
  report_refused g = rw (is_answer, g)
