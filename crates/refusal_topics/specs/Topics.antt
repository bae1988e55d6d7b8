-- What can be explained, by its word or its number (docs/PICTURES.md, "Refusals").
use Rattle.std.specs.Prelude.{◌≡◌, ℕ, List, [], ◌∷◌, ◌++◌, Option, codes, ◌||◌}
use Rattle.std.specs.List.{find}
use Rattle.std.specs.Str.{bytes_eq}
use Rattle.np_types.specs.declared.fault.Rule.{Rule}
use Rattle.np_types.specs.declared.fault.Rule.TheVariants as rules
use Rattle.refusal_topics.specs.declared.topic.Topic.{Topic}
use Rattle.refusal_topics.specs.declared.topic.Topic.TheVariants as topics
use Rattle.refusal_topics.specs.declared.topic.TheConstants.{TOPICS}

abbrev pub rule_word : Rule → List ℕ
rule_word rules.NotChannel = codes "NotChannel"
rule_word rules.NoInput = codes "NoInput"
rule_word rules.NoOutput = codes "NoOutput"
rule_word rules.Mismatch = codes "Mismatch"
rule_word rules.NotAgent = codes "NotAgent"
rule_word rules.NotSite = codes "NotSite"
rule_word rules.NotBool = codes "NotBool"
rule_word rules.NotInt = codes "NotInt"
rule_word rules.Shape = codes "Shape"
rule_word rules.NotComparable = codes "NotComparable"
rule_word rules.NotPrintable = codes "NotPrintable"
rule_word rules.Wide = codes "Wide"

abbrev pub topic_word : Topic → List ℕ
topic_word topics.Memory = codes "Memory"
topic_word topics.ReadFault = codes "ReadFault"
topic_word topics.TooLong = codes "TooLong"
topic_word topics.WriteFault = codes "WriteFault"
topic_word topics.BadChar = codes "BadChar"
topic_word topics.BadString = codes "BadString"
topic_word topics.BigNumber = codes "BigNumber"
topic_word topics.Syntax = codes "Syntax"
topic_word topics.TooDeep = codes "TooDeep"
topic_word topics.Unbound = codes "Unbound"
topic_word topics.SiteTwice = codes "SiteTwice"
topic_word topics.TooManySites = codes "TooManySites"
topic_word topics.NotASite = codes "NotASite"
topic_word topics.TypeFault = codes "TypeFault"
topic_word topics.TooManyNodes = codes "TooManyNodes"
topic_word topics.HistSyntax = codes "HistSyntax"
topic_word topics.NotARun = codes "NotARun"
topic_word topics.Usage = codes "Usage"
topic_word topics.TooManyEvents = codes "TooManyEvents"
topic_word topics.NoLine = codes "NoLine"
topic_word topics.LocationTest = codes "LocationTest"
topic_word topics.NotOurs = codes "NotOurs"
topic_word topics.BudgetPast = codes "BudgetPast"
topic_word (topics.Broken rule) = rule_word rule

abbrev pub topic_number : Topic → List ℕ
topic_number topics.Memory = codes "1"
topic_number topics.ReadFault = codes "4"
topic_number topics.TooLong = codes "5"
topic_number topics.WriteFault = codes "6"
topic_number topics.BadChar = codes "7"
topic_number topics.BadString = codes "8"
topic_number topics.BigNumber = codes "9"
topic_number topics.Syntax = codes "10"
topic_number topics.TooDeep = codes "11"
topic_number topics.Unbound = codes "12"
topic_number topics.SiteTwice = codes "13"
topic_number topics.TooManySites = codes "14"
topic_number topics.NotASite = codes "15"
topic_number topics.TypeFault = codes "16"
topic_number topics.TooManyNodes = codes "18"
topic_number topics.HistSyntax = codes "20"
topic_number topics.NotARun = codes "21"
topic_number topics.Usage = codes "22"
topic_number topics.TooManyEvents = codes "23"
topic_number topics.NoLine = codes "24"
topic_number topics.LocationTest = codes "25"
topic_number topics.NotOurs = codes "26"
topic_number topics.BudgetPast = codes "27"
topic_number (topics.Broken rule) = codes "16 TypeFault"

-- the first topic that has this word, or this number
abbrev pub topic_of : List ℕ → Option Topic
topic_of word = find (λ topic. bytes_eq (topic_word topic) word || bytes_eq (topic_number topic) word) TOPICS

-- the number and the word
abbrev pub title : Topic → List ℕ
title topic = topic_number topic ++ codes " " ++ topic_word topic

-- a text that begins so
pub record BeginsWith (front text : List ℕ) : Type 0 where
  pub rest : List ℕ
  pub is : text ≡ front ++ rest
