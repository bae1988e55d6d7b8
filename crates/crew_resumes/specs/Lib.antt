pub mod ToGoOn
