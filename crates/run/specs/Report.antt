-- A campaign file, from its bytes to the line that the program prints (document 01, "Campaign file").
use Rattle.std.specs.Prelude.{ℕ, List, None}
use Rattle.pages.specs.Pages.{Pages, writable}
use Rattle.execution.specs.Inputs.{of_keyboard}
use Rattle.run.specs.declared.campaign_file.Asked.{Asked}
use Rattle.run.specs.declared.campaign_file.Parsed.{Parsed}
use Rattle.run.specs.declared.Settings.{Settings}
use Rattle.run.specs.declared.Answer.{Answer}
use Rattle.run.specs.Acceptance.{end_number}
use Rattle.run.specs.Run.{call_of, settings}
use Rattle.run.specs.CampaignFile.{refusal_number, refusal_offset, Field, read, refused, campaign_of}
use Rattle.run.specs.Parts.{part}
use Rattle.run.specs.Line.{line_of, refusal_line_of}

-- the two pages that a file holds; nothing of them is read-only
abbrev pub pages_in : List ℕ → Parsed → Pages
pages_in bytes c = writable (part bytes c.page0.at c.page0.len) (part bytes c.page1.at c.page1.len)

-- what a call is given by what a file asks: nothing but the keyboard byte and the limit
abbrev pub settings_in : Asked → Settings
settings_in asked = settings (of_keyboard asked.keyboard) asked.limit

-- the line of a call's answer
abbrev pub answer_line : Answer → List ℕ
answer_line a = line_of (end_number a.end) a.steps a.states a.cpu

-- a file that is refused runs nothing; a file that is read is one run call without a log
abbrev pub report_from : List ℕ → Field Parsed → List ℕ
report_from bytes (read c next) = answer_line (call_of (settings_in c.asked) None c.cpu (pages_in bytes c)).answer
report_from bytes (refused stop) = refusal_line_of (refusal_number stop) (refusal_offset stop)

unfoldable pub report_of : List ℕ → List ℕ
report_of bytes = report_from bytes (campaign_of bytes 0)
