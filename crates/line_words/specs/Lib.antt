pub use Rattle.cny_report.specs as cny-report
pub use Rattle.cny_version.specs as cny-version
