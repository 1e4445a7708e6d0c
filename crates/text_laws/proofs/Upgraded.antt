-- What is upgraded is read as it was written.
use Rattle.std.proofs.Common.{◌≡◌, ℕ, List, Ok, Result, sym, ap, ◌∙◌}
use Rattle.text_lines.specs.declared.refusal.Refusal.{Refusal}
use Rattle.job_reader.specs.Trees.{JobTree}
use Rattle.job_reader.specs.Legal.{flat_job, IsJobTree}
use Rattle.job_reader.specs.Grammar.{canonical_text}
use Rattle.job_reader.specs.Reading.{job_in}
use Rattle.job_reader.specs.Upgrade.{upgraded_tree}
use Rattle.job_reader.proofs.Upgraded.{upgraded-job}
use Rattle.text_laws.specs.Laws.{IsTextOfJob}
use Rattle.text_laws.specs.Upgrades.{UpgradedTextsAreRead, UpgradingTwiceIsUpgradingOnce}
use Rattle.text_laws.proofs.ReadJobs.{read-jobs}
use Rattle.text_laws.proofs.Joined.{canonical-read, read-text}

legal : (text : List ℕ) (j : JobTree) → job_in text ≡ Ok j → IsJobTree (upgraded_tree j)
legal text j e = upgraded-job (flat_job j) (read-jobs text j e)

pub upgraded-read : UpgradedTextsAreRead
upgraded-read text j e short = canonical-read (upgraded_tree j) (legal text j e) short

pub twice-once : UpgradingTwiceIsUpgradingOnce
twice-once text j k e f =
    let again : IsTextOfJob k (canonical_text (upgraded_tree j)) = read-text (canonical_text (upgraded_tree j)) k f in
    let read : job_in (canonical_text (upgraded_tree j)) ≡ Ok (upgraded_tree j) =
    canonical-read (upgraded_tree j) (legal text j e) again.short in
    let both : ◌≡◌ {A = Result JobTree Refusal} (Ok k) (Ok (upgraded_tree j)) = sym f ∙ read in
    let same : k ≡ upgraded_tree j = cc in
    let twice : upgraded_tree k ≡ upgraded_tree j = ap upgraded_tree same in
    (same, twice ∙ sym same, ap canonical_text twice)
