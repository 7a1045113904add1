-- What callers cite of answers.
use mathlib.Core.Path.{◌≡◌}
use Rattle.laws.proofs.Never.{never}
use Rattle.answers.specs.declared.Refusal.{Refusal}
use Rattle.site.specs.declared.Site.{Site}
use Rattle.std.specs.Prelude.{Err, Ok, Result}

-- the code's answer is the definition's
pub site-answered : (x : Result Site Refusal) {s : Site} → x ≡ Ok s → x ≡ Ok s
site-answered (Err refusal) e = never cc
site-answered (Ok s) e = cc

pub site-unanswered : (x : Result Site Refusal) {refusal : Refusal} → x ≡ Err refusal → x ≡ Err refusal
site-unanswered (Err other) e = cc
site-unanswered (Ok s) e = never cc
