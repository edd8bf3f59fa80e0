use Rattle.std.proofs.Common.{◌≡◌, length, ap, ◌∙◌, length-take-le, take_at, drop_at}
use Rattle.pages.specs.Pages.{Pages}
use Rattle.run.proofs.parts.run_parts.Goals as goal

pub returns : goal.returns
returns c =
    let r = c.run in
    let l0 : length r.new.page0 ≡ c.args.len0 = r.auto.page0 ∙ length-take-le c.args.len0 c.args.page0.now c.requires.0 in
    let l1 : length r.new.page1 ≡ c.args.len1 = r.auto.page1 ∙ length-take-le c.args.len1 c.args.page1.now c.requires.1 in
    record {
      answer = r.ensures.answers.answer;
      page0_is = take_at _ _ _ l0 ∙ ap (λ (x : Pages). x.page0) r.ensures.answers.pages;
      rest0_kept = drop_at _ _ _ l0;
      page1_is = take_at _ _ _ l1 ∙ ap (λ (x : Pages). x.page1) r.ensures.answers.pages;
      rest1_kept = drop_at _ _ _ l1;
      logged = r.ensures.logged;
    }
